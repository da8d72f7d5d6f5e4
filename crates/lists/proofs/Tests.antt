-- Two tests together.
use mathlib.Core.Path.{◌≡◌, refl}
use mathlib.Core.Bool.{Bool, true, false, ◌&&◌, false≢true}

pub both : (x y : Bool) → x && y ≡ true → (x ≡ true) × (y ≡ true)
both true y e = (refl, e)
both false y e = absurd (false≢true e)

pub and : (x y : Bool) → x ≡ true → y ≡ true → x && y ≡ true
and true y p q = q
and false y p q = p
