-- Reading plan bytes, case by case: what the rule comes to at position k of the plan bytes bs.
use mathlib.Core.Path.{◌≡◌, refl, ◌∙◌}
use mathlib.Core.List.{List}
use Prim.Native.Nat.{ℕ, zero, suc, ◌+◌, ◌-◌, ◌%◌, ◌≤◌, ◌<◌}
use native.Mathlib.Omega.{arith}
use native.Mathlib.Nat.{zero-add}
use native.Mathlib.Numerals.{add-one}
use lib.ListN.{length, get_or, drop, drop_of_length-le}
use lib.Seq.{drop-cons}
use borrow.Author.Tests.{lt-ltb, le-ltb, le-leb, lt-leb, eq-eqb, ne_eqb}
use Rattle.bitset.specs.Set.{◌∪◌, bit}
use Rattle.bitset.proofs.Bits.{bit_zero}
use Rattle.std.specs.Prelude.{Ok, Err}
use Rattle.job_bytes.specs.declared.set_bytes.GroupFault.{GroupFault}
use Rattle.job_bytes.specs.declared.set_bytes.GroupFault.TheVariants.{Owed, Empty, Unknown}
use Rattle.job.specs.Refusal.{Outcome, done, refused, ◌>>=◌, ◌>>◌, demand}
use Rattle.job.specs.Handed.{between}
use Rattle.job_bytes.specs.SetBytes.{Got, got, byte_at, read_groups}
use Rattle.job_bytes.specs.JobBytes.{at_end}
use Rattle.job_bytes.proofs.Turns.{byte_here, byte_owed}
use Rattle.job_bytes.proofs.GroupByte.{Answers, answer_owed, answer_empty, answer_unknown, answer_curves}
use Rattle.plan_bytes.specs.PlanBytes.{Placed, read_set, read_step, read_end}
use Rattle.plan_bytes.specs.ContractWords.{step_outcome}

-- ---- one group: j is the next, the groups before it gave the set s
module _ (curves map s k j : ℕ) (bs : List ℕ) (few : curves ≤ 64) (below : j < 8) where
  abbrev groups_at : ℕ → ℕ → ℕ → Outcome (Got ℕ)
  groups_at j s k = read_groups 11 11 11 curves (8 - j) j map s k (drop k bs)

  pub group_read : (x : ℕ) → k ≤ length bs → Answers bs k (bit j map) j curves (Ok x)
      → (k + bit j map ≤ length bs) × (groups_at j s k ≡ groups_at (j + 1) (s ∪ x) (k + bit j map))
  group_read x l f =
      let r = answer_curves 11 11 11 curves map s 0 k j bs below few x l f in
      (r.0, rw (zero-add k, zero-add (k + bit j map)) at r.1)

  -- a group byte that is owed, or zero, or names a curve that the job lacks
  pub group_faulty : (f : GroupFault) → Answers bs k (bit j map) j curves (Err f) → groups_at j s k ≡ refused 11 k
  group_faulty Owed f = rw (zero-add k) at (answer_owed 11 11 11 curves map s 0 k j bs below few f)
  group_faulty Empty f = rw (zero-add k) at (answer_empty 11 11 11 curves map s 0 k j bs below few f)
  group_faulty Unknown f = rw (zero-add k) at (answer_unknown 11 11 11 curves map s 0 k j bs below few f)

-- ---- a byte of the whole plan
module _ (k : ℕ) (bs : List ℕ) where
  byte_read : k < length bs → byte_at 11 k (drop k bs) ≡ done (got (get_or bs k 0) (k + 1) (drop (k + 1) bs))
  byte_read h = rw (zero-add k, zero-add (k + 1)) at (byte_here 11 0 k bs h)

  byte_cut : length bs ≤ k → byte_at 11 k (drop k bs) ≡ refused 11 k
  byte_cut h = rw (zero-add k) at (byte_owed 11 0 k bs h)

  -- ---- a set
  module _ (curves tests : ℕ) where
    pub set_absent : (d : ℕ) → d ≡ 0 → read_set curves tests d k (drop k bs) ≡ done (got 0 k (drop k bs))
    unfolding read_set
    set_absent d e = rw e refl

    pub set_cut : (d : ℕ) → 0 < d → length bs ≤ k → read_set curves tests d k (drop k bs) ≡ refused 11 k
    unfolding read_set ◌>>=◌
    set_cut zero p h = absurd (omega arith)
    set_cut (suc d) p h = rw (byte_cut h) refl

    pub set_empty : (d : ℕ) → 0 < d → k < length bs → get_or bs k 0 ≡ 0 → read_set curves tests d k (drop k bs) ≡ refused 11 k
    unfolding read_set ◌>>=◌ ◌>>◌ demand
    set_empty zero p h z = absurd (omega arith)
    set_empty (suc d) p h z = rw (byte_read h, le-ltb 0 (get_or bs k 0) (omega arith)) refl

    pub set_groups : (d : ℕ) → 0 < d → k < length bs → 0 < get_or bs k 0
        → read_set curves tests d k (drop k bs) ≡ read_groups 11 11 11 curves 8 0 (get_or bs k 0) 0 (k + 1) (drop (k + 1) bs)
    unfolding read_set ◌>>=◌ ◌>>◌ demand
    set_groups zero p h z = absurd (omega arith)
    set_groups (suc d) p h z = rw (byte_read h, lt-ltb 0 (get_or bs k 0) z) refl

-- the reader of a set, case by case
pub ruleset set_cases = (set_absent, set_cut, set_empty, set_groups)

-- ---- a step, whose first byte stands at position k
module _ (curves tests k : ℕ) (bs : List ℕ) where
  abbrev here : Outcome (Got Placed)
  here = read_step curves tests k (drop k bs)

  pub step_cut : length bs ≤ k → here ≡ refused 11 k
  unfolding read_step ◌>>=◌
  step_cut h = rw (byte_cut k bs h) refl

  module _ (there : k < length bs) where
    pub step_low : get_or bs k 0 < 4 → here ≡ refused 11 k
    unfolding read_step between ◌>>=◌ ◌>>◌ demand
    step_low h = rw (byte_read k bs there, lt-leb 4 (get_or bs k 0) h) refl

    pub step_high : 4 ≤ get_or bs k 0 → 7 < get_or bs k 0 → here ≡ refused 11 k
    unfolding read_step between ◌>>=◌ ◌>>◌ demand
    step_high l h = rw (byte_read k bs there, le-leb 4 (get_or bs k 0) l, lt-leb (get_or bs k 0) 7 h) refl

    module _ (low : 4 ≤ get_or bs k 0) (high : get_or bs k 0 ≤ 7) where
      pub drops_faulty : (n i : ℕ) → read_set curves tests (get_or bs k 0 % 2) (k + 1) (drop (k + 1) bs) ≡ refused n i → here ≡ refused n i
      unfolding read_step between ◌>>=◌ ◌>>◌ demand
      drops_faulty n i d = rw (byte_read k bs there, le-leb 4 (get_or bs k 0) low, le-leb (get_or bs k 0) 7 high, bit_zero (get_or bs k 0), d) refl

      module _ (ds n : ℕ) (d : read_set curves tests (get_or bs k 0 % 2) (k + 1) (drop (k + 1) bs) ≡ done (got ds n (drop n bs))) where
        pub loads_faulty : (r i : ℕ) → read_set curves tests (bit 1 (get_or bs k 0)) n (drop n bs) ≡ refused r i → here ≡ refused r i
        unfolding read_step between ◌>>=◌ ◌>>◌ demand
        loads_faulty r i l = rw (byte_read k bs there, le-leb 4 (get_or bs k 0) low, le-leb (get_or bs k 0) 7 high, bit_zero (get_or bs k 0), d, l) refl

        module _ (ls m : ℕ) (l : read_set curves tests (bit 1 (get_or bs k 0)) n (drop n bs) ≡ done (got ls m (drop m bs))) where
          pub test_cut : length bs ≤ m → here ≡ refused 11 m
          unfolding read_step between ◌>>=◌ ◌>>◌ demand
          test_cut h = rw (byte_read k bs there, le-leb 4 (get_or bs k 0) low, le-leb (get_or bs k 0) 7 high, bit_zero (get_or bs k 0), d, l, byte_cut m bs h)
              refl

          pub test_unknown : m < length bs → tests ≤ get_or bs m 0 → here ≡ refused 11 m
          unfolding read_step between ◌>>=◌ ◌>>◌ demand
          test_unknown h t =
              rw (
                byte_read k bs there,
                le-leb 4 (get_or bs k 0) low,
                le-leb (get_or bs k 0) 7 high,
                bit_zero (get_or bs k 0),
                d,
                l,
                byte_read m bs h,
                le-ltb (get_or bs m 0) tests t,
              ) refl

          pub step_whole : m < length bs → get_or bs m 0 < tests
              → step_outcome bs k (Ok (record { test = get_or bs m 0; drops = ds; loads = ls; next = m + 1 })) ≡ here
          unfolding step_outcome read_step between ◌>>=◌ ◌>>◌ demand
          step_whole h t =
              rw (
                byte_read k bs there,
                le-leb 4 (get_or bs k 0) low,
                le-leb (get_or bs k 0) 7 high,
                bit_zero (get_or bs k 0),
                d,
                l,
                byte_read m bs h,
                lt-ltb (get_or bs m 0) tests t,
              ) refl

-- ---- what stands behind the last test, at position k
module _ (curves tests k : ℕ) (bs : List ℕ) where
  abbrev behind : Outcome ℕ
  behind = read_end curves tests k (drop k bs)

  pub no_end : length bs ≤ k → behind ≡ done 0
  unfolding read_end
  no_end h = rw (drop_of_length-le bs h) refl

  module _ (there : k < length bs) where
    pub end_other_map : (get_or bs k 0 ≡ 1 → ⊥) → behind ≡ refused 11 k
    unfolding read_end ◌>>◌ demand
    end_other_map h = rw (drop-cons bs k 0 there, ne_eqb (get_or bs k 0) 1 h) refl

    module _ (map : get_or bs k 0 ≡ 1) where
      -- a set, and nothing behind it
      pub end_set : behind
          ≡ ◌>>=◌ (read_set curves tests 1 (k + 1) (drop (k + 1) bs)) (λ s. ◌>>◌ (at_end 11 s.next s.rest) (done s.value))
      unfolding read_end ◌>>◌ demand
      end_set = rw (add-one k, drop-cons bs k 0 there, eq-eqb (get_or bs k 0) 1 map) refl

      pub end_faulty : (n i : ℕ) → read_set curves tests 1 (k + 1) (drop (k + 1) bs) ≡ refused n i → behind ≡ refused n i
      unfolding ◌>>=◌
      end_faulty n i e = end_set ∙ rw e refl

      module _ (s n : ℕ) (e : read_set curves tests 1 (k + 1) (drop (k + 1) bs) ≡ done (got s n (drop n bs))) where
        pub end_surplus : n < length bs → behind ≡ refused 11 n
        unfolding ◌>>=◌ ◌>>◌ at_end
        end_surplus h = end_set ∙ rw (e, drop-cons bs n 0 h) refl

        pub end_whole : length bs ≤ n → behind ≡ done s
        unfolding ◌>>=◌ ◌>>◌ at_end
        end_whole h = end_set ∙ rw (e, drop_of_length-le bs h) refl
