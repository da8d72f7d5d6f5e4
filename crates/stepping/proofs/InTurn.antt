-- WISH 7, proved: from a state where no step is committed, the commits in turn are the steps to come, one after the other.
use mathlib.Core.Path.{◌≡◌, refl, sym, ap, ◌∙◌}
use mathlib.Core.Logic.{inl, inr}
use mathlib.Core.Bool.{false}
use mathlib.Core.List.{List, [], ◌∷◌, ◌++◌}
use Prim.Native.Nat.{ℕ, zero, suc, ◌+◌, ◌≤◌, ◌<◌}
use native.Mathlib.Omega.{arith}
use native.Mathlib.Decide.{dec_le}
use lib.ListN.{length, get_or, take, drop, drop_of_length-le}
use lib.Seq.{take_all, take-length, take-suc, drop-cons, get_or-drop}
use Rattle.job.specs.Refusal.{done, refused}
use Rattle.stepping.specs.declared.State.{State}
use Rattle.stepping.specs.declared.NextStep.{NextStep}
use Rattle.stepping.specs.declared.NextStep.TheVariants.{Done}
use Rattle.stepping.specs.Stepping.{is_done, held_behind, step_wants, look, commit, state_after, after_commit}
use Rattle.stepping.specs.InTurn.{in_turn, tried, held_through, InTurn}
use Rattle.stepping.proofs.Ahead.{ahead, look_first, ahead_step, ahead_done, ahead_empties, to_come}
use Rattle.stepping.proofs.Exact.{is_done_lem, Turn, carried, turned, turn, unchanged}

-- ---- one commit

-- when a step is carried out, the others are to come
to_come_lem : (s : State) → is_done (look s) ≡ false → to_come s ≡ look s ∷ to_come (state_after s (done (look s)))
unfolding state_after
to_come_lem s e = ahead_step s.capacity s.held s.committed _ e

one_committed : (s : State) (l : NextStep) → (state_after s (done l)).committed ≡ suc s.committed
unfolding state_after
one_committed s l = refl

one_held : (s : State) (l : NextStep) → (state_after s (done l)).held ≡ held_behind s.held l
unfolding state_after
one_held s l = refl

through_last : (h : ℕ) (ls : List NextStep) (l : NextStep) → held_through h (ls ++ (l ∷ [])) ≡ held_behind (held_through h ls) l
unfolding held_through
through_last h [] l = refl
through_last h (k ∷ ks) l = through_last (held_behind h k) ks l

-- a list that is not empty, and what is behind its first entry
tail_is : (ls : List NextStep) (k : ℕ) (x : NextStep) (xs : List NextStep) → drop k ls ≡ x ∷ xs → (k < length ls) × (drop (suc k) ls ≡ xs)
tail_is ls k x xs e = go (dec_le (length ls) k)
  where
    go : Dec (length ls ≤ k) → (k < length ls) × (drop (suc k) ls ≡ xs)
    go (yes l) = absurd (omega (arith, ap length (sym (drop_of_length-le ls l) ∙ e)))
    go (no l) = let f = sym (drop-cons ls k Done (omega arith)) ∙ e in (omega arith, cc)

none_left : (ls : List NextStep) (k : ℕ) → drop k ls ≡ [] → length ls ≤ k
none_left ls k e = go (dec_le (length ls) k)
  where
    go : Dec (length ls ≤ k) → length ls ≤ k
    go (yes l) = l
    go (no l) = absurd (omega (arith, ap length (sym (drop-cons ls k Done (omega arith)) ∙ e)))

-- ---- commits in turn
module _ (s : State) (start : s.committed ≡ 0) where
  abbrev plan : List NextStep
  plan = to_come s

  -- behind k of them
  record Behind (k : ℕ) : Type 0 where
    rest : to_come (in_turn s k) ≡ drop k plan
    count : k ≤ length plan → (in_turn s k).committed ≡ k
    held : (in_turn s k).held ≡ held_through s.held (take k plan)

  -- a list where all is done stays so
  stays : (k : ℕ) → Behind k → length plan ≤ k → after_commit (in_turn s k) k ≡ in_turn s k → Behind (suc k)
  unfolding in_turn
  stays k b l e =
      record {
        rest = rw e (b.rest ∙ drop_of_length-le plan l ∙ sym (drop_of_length-le plan {i = suc k} (omega arith)));
        count = λ h. absurd (omega arith);
        held = rw e (b.held ∙ ap (held_through s.held) (take_all k plan l ∙ sym (take_all (suc k) plan (omega arith))));
      }

  -- a look shows the step at k
  shows : (k : ℕ) → Behind k → look (in_turn s k) ≡ get_or plan k Done
  shows k b =
      let t = in_turn s k in
      let z : k + 0 ≡ k = omega arith in
      look_first t.capacity t.held t.committed _ ∙ ap (λ (ls : List NextStep). get_or ls 0 Done) b.rest
      ∙ get_or-drop k plan 0 Done ∙ ap (λ (i : ℕ). get_or plan i Done) z

  -- nothing is left where a look says done
  all_done : (k : ℕ) → Behind k → look (in_turn s k) ≡ Done → length plan ≤ k
  all_done k b d = none_left plan k (sym b.rest ∙ ahead_done (in_turn s k).capacity (in_turn s k).held (in_turn s k).committed _ (is_done_lem _ d))

  -- one more
  one_more : (k : ℕ) → Behind k → Turn (in_turn s k) k → Behind (suc k)
  unfolding in_turn
  one_more k b (carried p f c) =
      let t = in_turn s k in
      let r = tail_is plan k _ _ (sym b.rest ∙ to_come_lem t f) in
      let e : after_commit t k ≡ state_after t (done (look t)) = ap (state_after t) c in
      let held : held_behind t.held (look t) ≡ held_through s.held (take (suc k) plan) =
      ap (λ (h : ℕ). held_behind h (look t)) b.held ∙ ap (held_behind (held_through s.held (take k plan))) (shows k b)
      ∙ sym (ap (held_through s.held) (take-suc plan k Done r.0) ∙ through_last s.held (take k plan) (get_or plan k Done)) in
      record {
        rest = rw e (sym r.1);
        count = λ h. rw e (one_committed t (look t) ∙ ap suc (b.count (omega (arith, r.0))));
        held = rw e (one_held t (look t) ∙ held);
      }
  one_more k b (turned (inr d) c) = stays k b (all_done k b d) (unchanged (in_turn s k) k 15 _ c)
  one_more k b (turned (inl p) c) = stays k b (go (dec_le (length plan) k)) (unchanged (in_turn s k) k 15 _ c)
    where
      go : Dec (length plan ≤ k) → length plan ≤ k
      go (yes l) = l
      go (no l) = absurd (p (sym (b.count (omega arith))))

  behind : (k : ℕ) → Behind k
  behind zero = record { rest = unfold in_turn in refl; count = λ h. unfold in_turn in start; held = unfold in_turn held_through in refl }
  behind (suc k) = one_more k (behind k) (turn (in_turn s k) k)

  -- ---- what is said of them

  -- behind the last step nothing is held
  empties : (in_turn s (length plan)).held ≡ 0
  empties =
      (behind (length plan)).held ∙ ap (held_through s.held) (take-length plan)
      ∙ ap (λ (k : ℕ). held_through s.held (ahead s.capacity s.held k (step_wants s))) start ∙ ahead_empties s.capacity s.held (step_wants s)

  -- a step is left where not all are committed
  left : (k : ℕ) → k < length plan → look (in_turn s k) ≡ Done → ⊥
  left k l d = omega (arith, all_done k (behind k) d)

  commits : (k : ℕ) → k < length plan → commit (in_turn s k) k ≡ done (look (in_turn s k))
  commits k l = go (turn (in_turn s k) k)
    where
      go : Turn (in_turn s k) k → commit (in_turn s k) k ≡ done (look (in_turn s k))
      go (carried p f c) = c
      go (turned (inl p) c) = absurd (p (sym ((behind k).count (omega arith))))
      go (turned (inr d) c) = absurd (left k l d)

  others : (k position : ℕ) → k ≤ length plan → (position ≡ k → k ≡ length plan) → commit (in_turn s k) position ≡ refused 15 k
  others k position l h = go (turn (in_turn s k) position)
    where
      go : Turn (in_turn s k) position → commit (in_turn s k) position ≡ refused 15 k
      go (turned w c) = c ∙ ap (λ (i : ℕ). refused 15 i) ((behind k).count l)
      go (carried p f c) =
          let e = h (p ∙ (behind k).count l) in
          let r = tail_is plan k _ _ (sym (behind k).rest ∙ to_come_lem (in_turn s k) f) in
          absurd (omega (arith, r.0))

  turn_suc : (k : ℕ) → in_turn s (suc k) ≡ after_commit (in_turn s k) k
  unfolding in_turn
  turn_suc k = refl

  -- from behind k commits in turn
  states_from : (k : ℕ) → k ≤ length plan → (positions : List ℕ) → (m : ℕ) × (m ≤ length plan) × (tried (in_turn s k) positions ≡ in_turn s m)
  unfolding tried
  states_from k l [] = (k, l, refl)
  states_from k l (p ∷ ps) = go (turn (in_turn s k) p) (states_from k l ps) (λ h. states_from (suc k) h ps)
    where
      go : Turn (in_turn s k) p → (m : ℕ) × (m ≤ length plan) × (tried (in_turn s k) ps ≡ in_turn s m)
          → (suc k ≤ length plan → (m : ℕ) × (m ≤ length plan) × (tried (in_turn s (suc k)) ps ≡ in_turn s m))
          → (m : ℕ) × (m ≤ length plan) × (tried (after_commit (in_turn s k) p) ps ≡ in_turn s m)
      go (turned w c) same more = (same.0, same.1, ap (λ (t : State). tried t ps) (unchanged (in_turn s k) p 15 _ c) ∙ same.2)
      go (carried e f c) same more =
          let r = more (tail_is plan k _ _ (sym (behind k).rest ∙ to_come_lem (in_turn s k) f)).0 in
          let t : after_commit (in_turn s k) p ≡ in_turn s (suc k) = ap (after_commit (in_turn s k)) (e ∙ (behind k).count l) ∙ sym (turn_suc k) in
          (r.0, r.1, ap (λ (t : State). tried t ps) t ∙ r.2)

  pub in_turn_lem : InTurn s plan
  in_turn_lem =
      record {
        looks = λ k. shows k (behind k);
        commits = commits;
        counts = λ k. (behind k).count;
        holds = λ k. (behind k).held;
        empties = empties;
        others = others;
        states = λ ps. unfold in_turn in states_from 0 (omega arith) ps;
      }
