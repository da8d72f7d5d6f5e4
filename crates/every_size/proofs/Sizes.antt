-- The entries of all drive sizes, as loops make them and look for one.
use mathlib.Core.Path.{◌≡◌, refl, sym, ap, ◌∙◌}
use mathlib.Core.Bool.{Bool, true, false}
use mathlib.Core.List.{List, [], ◌∷◌}
use Prim.Native.Nat.{ℕ, suc, ◌+◌, ◌-◌, ◌≤◌, ◌<◌, min, max}
use native.Mathlib.Omega.{arith}
use native.Mathlib.Decide.{ℕ_discrete, dec_le}
use native.Mathlib.Numerals.{add-one}
use lib.Dec.{leb}
use lib.ListN.{length, get_or, take, drop, set, length-set, replicate, get_or-replicate, drop_of_length-le}
use lib.Seq.{take_all, take-length, get_or-set_same, get_or-set_other, ext_get_or}
use Rattle.std.specs.List.{fold, position_from}
use Rattle.std.specs.Option.{option_map}
use Rattle.bitset.specs.Set.{size}
use Rattle.lists.specs.Choice.{keep}
use Rattle.every_size.specs.Sizes.{largest, mark, or_mark, count_for, all_sizes, serves, fewest_from, size_found}
use Rattle.every_size.specs.ContractWords.{sum}
use Rattle.every_size.proofs.LoadCounts.{length_sizes, size_at}
use Rattle.every_size.proofs.Loads.{sum_from}

-- ---- the largest test

-- from a number on
largest_from : (n : ℕ) (ws : List ℕ) → fold (λ m w. max m (size w)) n ws ≡ max n (largest ws)
unfolding largest
largest_from n [] = omega arith
largest_from n (w ∷ ws) = largest_from (max n (size w)) ws ∙ omega arith

pub largest_fold : (ws : List ℕ) → fold (λ m w. max m (size w)) 0 ws ≡ largest ws
largest_fold ws = largest_from 0 ws ∙ omega arith

-- ---- the first size that serves

-- where the first entries are those of i sizes
pub fewest_position : (loads i : ℕ) (entries : List ℕ)
    → size_found (option_map (λ (k : ℕ). k + 1) (position_from (serves loads) i entries)) ≡ fewest_from loads (i + 1) entries
unfolding size_found fewest_from keep
fewest_position loads i [] = refl
fewest_position loads i (entry ∷ entries) = go (serves loads entry) refl (fewest_position loads (i + 1) entries)
  where
    go : (b : Bool) → serves loads entry ≡ b
        → size_found (option_map (λ (k : ℕ). k + 1) (position_from (serves loads) (i + 1) entries)) ≡ fewest_from loads (i + 1 + 1) entries
        → size_found (option_map (λ (k : ℕ). k + 1) (position_from (serves loads) i (entry ∷ entries))) ≡ fewest_from loads (i + 1) (entry ∷ entries)
    go true e later = unfold size_found fewest_from keep in rw e refl
    go false e later = unfold fewest_from keep in rw (e, sym (add-one (i + 1))) later

-- ---- the entries, from the loads by slots: those of the sizes above p are made

pub record Entered (most p total : ℕ) (loads counts : List ℕ) : Type 0 where
  pub long : length counts ≡ 64
  pub summed : total ≡ sum (drop (suc p) loads)
  pub made : (q : ℕ) → p < q → q ≤ 64 → get_or counts (q - 1) 0 ≡ or_mark (leb most q) (sum (drop q loads))
  pub others : (q : ℕ) → 1 ≤ q → q ≤ p → get_or counts (q - 1) 0 ≡ mark

pub entered_start : (most : ℕ) (loads : List ℕ) → length loads ≡ 65 → Entered most 64 0 loads (replicate 64 mark)
unfolding sum
entered_start most loads l =
    record {
      long = refl;
      summed = rw (drop_of_length-le loads {i = 65} (omega arith)) refl;
      made = λ q h m. absurd (omega arith);
      others = λ q h m. get_or-replicate {A = ℕ} 64 (q - 1) mark 0 (omega arith);
    }

module _ {most p total : ℕ} {loads counts : List ℕ} (e : Entered most p total loads counts) (pos : 0 < p) (few : p ≤ 64) (long : length loads ≡ 65) where
  -- with the loads of slot p
  summed_next : total + get_or loads p 0 ≡ sum (drop (suc (p - 1)) loads)
  summed_next =
      let s : suc (p - 1) ≡ p = omega arith in
      rw s (omega (arith, e.summed, sum_from loads p (omega arith)))

  total_is : total + get_or loads p 0 ≡ sum (drop p loads)
  total_is = omega (arith, e.summed, sum_from loads p (omega arith))

  -- a size that is large enough
  pub entered_count : leb most p ≡ true → Entered most (p - 1) (total + get_or loads p 0) loads (set counts (p - 1) (total + get_or loads p 0))
  entered_count t =
      record {
        long = length-set counts (p - 1) _ ∙ e.long;
        summed = summed_next;
        made = λ q h m. go q h m (ℕ_discrete q p);
        others = λ q h m. get_or-set_other counts (p - 1) (q - 1) _ 0 (λ f. omega arith) ∙ e.others q h (omega arith);
      }
    where
      here : or_mark (leb most p) (sum (drop p loads)) ≡ total + get_or loads p 0
      here = unfold or_mark in rw t (sym total_is)

      go : (q : ℕ) → p - 1 < q → q ≤ 64 → Dec (q ≡ p)
          → get_or (set counts (p - 1) (total + get_or loads p 0)) (q - 1) 0 ≡ or_mark (leb most q) (sum (drop q loads))
      go q h m (yes f) = rw f (get_or-set_same counts (p - 1) _ 0 (omega (arith, e.long)) ∙ sym here)
      go q h m (no f) = get_or-set_other counts (p - 1) (q - 1) _ 0 (λ g. f (omega arith)) ∙ e.made q (omega arith) m

  -- one that is too small
  pub entered_mark : leb most p ≡ false → Entered most (p - 1) (total + get_or loads p 0) loads counts
  entered_mark t =
      record {
        long = e.long;
        summed = summed_next;
        made = λ q h m. go q h m (ℕ_discrete q p);
        others = λ q h m. e.others q h (omega arith);
      }
    where
      go : (q : ℕ) → p - 1 < q → q ≤ 64 → Dec (q ≡ p) → get_or counts (q - 1) 0 ≡ or_mark (leb most q) (sum (drop q loads))
      go q h m (yes f) = rw (f, t) (unfold or_mark in e.others p pos (omega arith))
      go q h m (no f) = e.made q (omega arith) m

-- ---- all of them

-- THE ENTRIES OF ALL SIZES, by one
pub sizes_by : (n : ℕ) (ws counts : List ℕ) → length counts ≡ 64 → ((p : ℕ) → 1 ≤ p → p ≤ 64 → get_or counts (p - 1) 0 ≡ count_for n ws p)
    → counts ≡ all_sizes n ws
sizes_by n ws counts long each =
    ext_get_or 0 counts (all_sizes n ws) (long ∙ sym (length_sizes n ws))
    (λ i h. let e : i ≡ suc i - 1 = omega arith in
    rw e (each (suc i) (omega arith) (omega arith) ∙ sym (size_at n ws (suc i) (omega arith) (omega arith))))

-- the first of some steps, and no more than there are
pub take_min : (n : ℕ) (l : List ℕ) → take (min n (length l)) l ≡ take n l
take_min n l = go (dec_le (length l) n)
  where
    go : Dec (length l ≤ n) → take (min n (length l)) l ≡ take n l
    go (yes h) = let e : min n (length l) ≡ length l = omega arith in ap (λ (k : ℕ). take k l) e ∙ take-length l ∙ sym (take_all n l h)
    go (no h) = let e : min n (length l) ≡ n = omega arith in ap (λ (k : ℕ). take k l) e
