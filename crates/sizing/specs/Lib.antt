-- 02, wish 9, "Every drive size together": of a list, and an order of its tests, that are handed over.
--     Sizing     all sizes, and the fewest places, with their refusals (the rules of one drive: `drive`, `Sizes`)
--     EverySize  WISH 9, the statement
pub mod Sizing
pub mod EverySize
