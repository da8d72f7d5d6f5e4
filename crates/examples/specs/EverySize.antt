-- Examples of 02, wish 9, every drive size together, by computation on the written rules.
use Rattle.std.specs.Prelude.{◌≡◌, List, [], ◌∷◌, ◌++◌, ℕ, replicate}
use Rattle.lists.specs.Choice.{nobody, found}
use Rattle.job.specs.Refusal.{done, refused}
use Rattle.every_size.specs.Sizes.{mark, fewest_places}
use Rattle.sizing.specs.Sizing.{sizing, fewest}
use Rattle.report.specs.Report.{text}
use Rattle.report.specs.SizeTable.{size_table, count_in}
use Rattle.examples.specs.Starred.{a_bytes, a_wants}
use Rattle.examples.specs.Halfway.{order_4, order_3}

-- so many entries behind the first ones, all the same
abbrev pub and_on : List ℕ → ℕ → ℕ → List ℕ
and_on first sizes entry = first ++ replicate sizes entry

-- the longer list of `c/sizes.c`: {0,1} {2,3} {0,4} {1,5} {2,3} {0,1} {4,5} {0,2}
abbrev pub eight : List ℕ
eight = 0x03 ∷ 0x0c ∷ 0x11 ∷ 0x22 ∷ 0x0c ∷ 0x03 ∷ 0x30 ∷ 0x05 ∷ []

abbrev pub order_8 : List ℕ
order_8 = 0 ∷ 1 ∷ 2 ∷ 3 ∷ 4 ∷ 5 ∷ 6 ∷ 7 ∷ []

-- the examples
pub record Examples : Type 0 where
  -- job A: one place is too few for a test of two curves, and two, as many as the largest test wants, are not
  pub a_sizes : sizing 4 a_wants order_4 ≡ done (and_on (mark ∷ 5 ∷ []) 62 4)
  pub a_other_order : sizing 4 a_wants (2 ∷ 0 ∷ 1 ∷ 3 ∷ []) ≡ done (and_on (mark ∷ []) 63 4)
  -- a wanted count, from one that no size serves on; "a marked size never serving", also where the count is the mark or more
  pub a_none : fewest 4 a_wants order_4 3 ≡ done nobody
  pub a_least : fewest 4 a_wants order_4 4 ≡ done (found 3)
  pub a_five : fewest 4 a_wants order_4 5 ≡ done (found 2)
  pub a_mark : fewest 4 a_wants order_4 65535 ≡ done (found 2)
  pub a_more : fewest 4 a_wants order_4 65536 ≡ done (found 2)
  pub all_marked : fewest_places 65536 (replicate 64 mark) ≡ nobody
  -- the longer list
  pub eight_sizes : sizing 6 eight order_8 ≡ done (and_on (mark ∷ 16 ∷ 12 ∷ 9 ∷ 7 ∷ []) 59 6)
  pub eight_five : fewest 6 eight order_8 5 ≡ done nobody
  pub eight_ten : fewest 6 eight order_8 10 ≡ done (found 4)
  -- the largest test wants three curves, and it is not the first
  pub largest : sizing 4 (1 ∷ 14 ∷ 1 ∷ []) order_3 ≡ done (and_on (mark ∷ mark ∷ 5 ∷ []) 61 4)
  -- a test that wants nothing, and the same curve again and again
  pub wants_nothing : sizing 1 (0 ∷ 1 ∷ 0 ∷ []) order_3 ≡ done (replicate 64 1)
  -- a list without tests
  pub none_sizes : sizing 1 [] [] ≡ done (replicate 64 0)
  pub none_fewest : fewest 1 [] [] 0 ≡ done (found 1)
  -- "apart from 7, the walk refuses as planning does": 10 at 1, at 2, at 4 + t, then 8
  pub curves : sizing 0 (16 ∷ []) [] ≡ refused 10 1
  pub curves_fewest : fewest 65 a_wants order_4 5 ≡ refused 10 1
  pub tests : sizing 4 (replicate 257 16) [] ≡ refused 10 2
  pub foreign : sizing 3 (3 ∷ 8 ∷ 8 ∷ []) [] ≡ refused 10 5
  pub order_short : sizing 4 a_wants order_3 ≡ refused 8 3
  pub order_again : fewest 4 a_wants (0 ∷ 1 ∷ 1 ∷ 3 ∷ []) 5 ≡ refused 8 2
  -- the table, and with a wanted count
  pub a_table : size_table a_bytes nobody ≡ text "4 tests, method 0\n1 places: too few\n2 places: 5 loads\n3 places: 4 loads\nmore places: no fewer loads\n"
  pub a_wanted : size_table a_bytes (found 5)
      ≡ text "4 tests, method 0\n1 places: too few\n2 places: 5 loads\n3 places: 4 loads\nmore places: no fewer loads\nat most 5 loads: 2 places\n"
  pub a_wanted_none : size_table a_bytes (found 3)
      ≡ text "4 tests, method 0\n1 places: too few\n2 places: 5 loads\n3 places: 4 loads\nmore places: no fewer loads\nat most 3 loads: none\n"
  pub none_table : size_table (0x00 ∷ []) nobody ≡ text "0 tests, method 0\n1 places: 0 loads\nmore places: no fewer loads\n"
  pub refused_table : size_table (0x05 ∷ 0x02 ∷ 0x01 ∷ 0x00 ∷ 0x01 ∷ 0x07 ∷ []) (found 5) ≡ text "refused 7 at 0\n"
  -- the program's word
  pub word : count_in (text "41") ≡ found 41
  pub leading : count_in (text "00041") ≡ found 41
  pub no_word : count_in [] ≡ nobody
  pub long_word : count_in (text "100000") ≡ nobody
  pub no_digit : count_in (text "4x") ≡ nobody
  pub signed : count_in (text "-1") ≡ nobody
