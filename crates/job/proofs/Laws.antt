-- Laws of outcomes: what a sequence that is done, or refused, says of its parts.
use mathlib.Core.Path.{◌≡◌, refl, sym, ◌∙◌, subst}
use mathlib.Core.Logic.{◌⊎◌, inl, inr}
use mathlib.Core.Bool.{Bool, true, false}
use mathlib.Core.List.{List, [], ◌∷◌}
use Prim.Native.Nat.{ℕ, zero, suc, ◌+◌, ◌≤◌, ◌<◌}
use lib.Dec.{leb}
use borrow.Author.Tests.{leb-true, le-leb, lt-leb}
use native.Mathlib.Omega.{arith}
use lib.ListN.{length, get_or, drop, drop_of_length-le}
use lib.Seq.{drop-cons}
use native.Mathlib.Numerals.{add-one}
use Rattle.job.specs.declared.Refusal.{Refusal}
use Rattle.std.specs.Prelude.{Result, Ok, Err, IsErrAnd}
use Rattle.std.proofs.lemmas.Result.{err_from_is_err_and}
use Rattle.job.specs.Refusal.{Outcome, done, refused, number, figure, outcome}
use Rattle.job.specs.Refusal.{◌>>=◌, ◌>>◌, mapped, demand, room, fitting, leaves, overwritten}
use Rattle.job.specs.Handed.{each}
pub use Rattle.lists.proofs.Tests.{both, and}

-- ---- outcomes

abbrev is_done : {A : Type 0} → Outcome A → Type 0
is_done (done a) = Unit {0}
is_done (refused k i) = ⊥

pub refused≢done : {A : Type 0} {k i : ℕ} {a : A} → refused k i ≡ done a → ⊥
refused≢done e = subst is_done (sym e) tt

pub done_same : {A : Type 0} {x y : A} → done x ≡ done y → x ≡ y
done_same e = cc

pub refused_same : {A : Type 0} {k i l j : ℕ} → ◌≡◌ {A = Outcome A} (refused k i) (refused l j) → i ≡ j
refused_same e = cc

-- a test that passed, and a sequence that was done
pub demand_true : (t : Bool) (k i : ℕ) → demand t k i ≡ done tt → t ≡ true
unfolding demand
demand_true true k i e = refl
demand_true false k i e = absurd (refused≢done e)

pub demand_done : (t : Bool) (k i : ℕ) → t ≡ true → demand t k i ≡ done tt
demand_done t k i e = rw e (unfold demand in refl)

pub demand_refused : (t : Bool) (k i : ℕ) → t ≡ false → demand t k i ≡ refused k i
demand_refused t k i e = rw e (unfold demand in refl)

pub both_done : {B : Type 0} (a : Outcome (Unit {0})) (r : Outcome B) (b : B) → ◌>>◌ a r ≡ done b → (a ≡ done tt) × (r ≡ done b)
unfolding ◌>>◌
both_done (done tt) r b e = (refl, e)
both_done (refused k i) r b e = absurd (refused≢done e)

pub both_bind : {A B : Type 0} (a : Outcome (Unit {0})) (r : Outcome A) (f : A → Outcome B) (b : B) → ◌>>=◌ (◌>>◌ a r) f ≡ done b
    → (a ≡ done tt) × (◌>>=◌ r f ≡ done b)
unfolding ◌>>◌ ◌>>=◌
both_bind (done tt) r f b e = (refl, e)
both_bind (refused k i) r f b e = absurd (refused≢done e)

pub bind_done : {A B : Type 0} (a : Outcome A) (f : A → Outcome B) (b : B) → ◌>>=◌ a f ≡ done b → (x : A) × (a ≡ done x) × (f x ≡ done b)
unfolding ◌>>=◌
bind_done (done x) f b e = (x, refl, e)
bind_done (refused k i) f b e = absurd (refused≢done e)

pub done_both : {B : Type 0} (a : Outcome (Unit {0})) (r : Outcome B) → a ≡ done tt → ◌>>◌ a r ≡ r
unfolding ◌>>◌
done_both a r e = rw e refl

pub both_assoc : {A : Type 0} (a b : Outcome (Unit {0})) (c : Outcome A) → ◌>>◌ a (◌>>◌ b c) ≡ ◌>>◌ (◌>>◌ a b) c
unfolding ◌>>◌
both_assoc (done tt) b c = refl
both_assoc (refused k i) b c = refl

-- a sequence that is refused: its first part is, or the rest
pub refused_split : {A B : Type 0} (a : Outcome A) (b : Outcome B) (k i : ℕ) → ◌>>◌ a b ≡ refused k i
    → (a ≡ refused k i) ⊎ ((x : A) × (a ≡ done x) × (b ≡ refused k i))
unfolding ◌>>◌
refused_split (done x) b k i e = inr (x, refl, e)
refused_split (refused l j) b k i e = inl cc

-- a test that was refused
pub demand_false : (t : Bool) (k i l j : ℕ) → demand t k i ≡ refused l j → (t ≡ false) × (k ≡ l) × (i ≡ j)
unfolding demand
demand_false true k i l j e = absurd (refused≢done (sym e))
demand_false false k i l j e = (refl, cc, cc)

-- ---- `each`

-- every entry passes
pub each_true : (ok : ℕ → Bool) (k i : ℕ) (xs : List ℕ) → each ok k i xs ≡ done tt → (t : ℕ) → t < length xs → ok (get_or xs t 0) ≡ true
unfolding each
each_true ok k i [] e t h = absurd (omega arith)
each_true ok k i (x ∷ xs) e zero h = demand_true (ok x) k i (both_done (demand (ok x) k i) (each ok k (suc i) xs) tt e).0
each_true ok k i (x ∷ xs) e (suc t) h = each_true ok k (suc i) xs (both_done (demand (ok x) k i) (each ok k (suc i) xs) tt e).1 t (omega arith)

pub true_each : (ok : ℕ → Bool) (k i : ℕ) (xs : List ℕ) → ((t : ℕ) → t < length xs → ok (get_or xs t 0) ≡ true) → each ok k i xs ≡ done tt
unfolding each
true_each ok k i [] h = refl
true_each ok k i (x ∷ xs) h =
    done_both (demand (ok x) k i) (each ok k (suc i) xs) (demand_done (ok x) k i (h 0 (omega arith)))
    ∙ true_each ok k (suc i) xs (λ t l. h (suc t) (omega arith))

-- ---- a loop over the entries: at entry t, one turn; at the end, done

module _ (ok : ℕ → Bool) (k i : ℕ) (xs : List ℕ) (t : ℕ) where
  each_cons : t < length xs → each ok k (i + t) (drop t xs) ≡ ◌>>◌ (demand (ok (get_or xs t 0)) k (i + t)) (each ok k (i + (t + 1)) (drop (t + 1) xs))
  unfolding each
  each_cons h = let e : i + (t + 1) ≡ suc (i + t) = omega arith in rw (e, add-one t, drop-cons xs t 0 h) refl

  pub each_pass : t < length xs → ok (get_or xs t 0) ≡ true → each ok k (i + t) (drop t xs) ≡ each ok k (i + (t + 1)) (drop (t + 1) xs)
  each_pass h e = each_cons h ∙ done_both _ _ (demand_done (ok (get_or xs t 0)) k (i + t) e)

  pub each_fail : t < length xs → ok (get_or xs t 0) ≡ false → each ok k (i + t) (drop t xs) ≡ refused k (i + t)
  unfolding demand ◌>>◌
  each_fail h e = each_cons h ∙ rw e refl

  pub each_end : length xs ≤ t → each ok k (i + t) (drop t xs) ≡ done tt
  unfolding each
  each_end h = rw (drop_of_length-le xs h) refl

-- ---- `mapped` and `leaves`

pub mapped_done : {A B : Type 0} (f : A → B) (a : Outcome A) (b : B) → mapped f a ≡ done b → (x : A) × (a ≡ done x) × (f x ≡ b)
unfolding mapped
mapped_done f (done x) b e = (x, refl, cc)
mapped_done f (refused k i) b e = absurd (refused≢done e)

pub mapped_refused : {A B : Type 0} (f : A → B) (a : Outcome A) (k i : ℕ) → mapped f a ≡ refused k i → a ≡ refused k i
unfolding mapped
mapped_refused f (done x) k i e = absurd (refused≢done (sym e))
mapped_refused f (refused l j) k i e = cc

pub done_mapped : {A B : Type 0} (f : A → B) (a : Outcome A) (x : A) → a ≡ done x → done (f x) ≡ mapped f a
unfolding mapped
done_mapped f a x e = rw e refl

pub refused_mapped : {A B : Type 0} (f : A → B) (a : Outcome A) (k i : ℕ) → a ≡ refused k i → refused k i ≡ mapped f a
unfolding mapped
refused_mapped f a k i e = rw e refl

pub room_done : (lent needed : ℕ) → room lent needed ≡ done tt → needed ≤ lent
unfolding room
room_done lent needed e = leb-true needed lent (demand_true (leb needed lent) 9 needed e)

pub done_room : (lent needed : ℕ) → needed ≤ lent → room lent needed ≡ done tt
unfolding room
done_room lent needed h = demand_done (leb needed lent) 9 needed (le-leb needed lent h)

module _ (bytes : List ℕ) (lent : ℕ) where
  pub fitting_short : lent < length bytes → fitting bytes lent ≡ refused 9 (length bytes)
  unfolding room demand ◌>>◌
  fitting_short h = rw (lt-leb (length bytes) lent h) refl

  pub fitting_whole : length bytes ≤ lent → fitting bytes lent ≡ done bytes
  unfolding room demand ◌>>◌
  fitting_whole h = rw (le-leb (length bytes) lent h) refl

pub leaves_done : {A : Type 0} (f : A → List ℕ) (a : Outcome A) (x : A) (old : List ℕ) → a ≡ done x → leaves (mapped f a) old ≡ overwritten (f x) old
unfolding mapped leaves
leaves_done f a x old e = rw e refl

pub leaves_refused : {A : Type 0} (f : A → List ℕ) (a : Outcome A) (k i : ℕ) (old : List ℕ) → a ≡ refused k i → leaves (mapped f a) old ≡ old
unfolding mapped leaves
leaves_refused f a k i old e = rw e refl

-- ---- a call that makes a list: what it answers, and what the lent list holds afterwards

pub made_refused : (made : Outcome (List ℕ)) (old : List ℕ) (k i : ℕ) → made ≡ refused k i → (refused k i ≡ mapped length made) × (old ≡ leaves made old)
unfolding mapped leaves
made_refused made old k i e = (rw e refl, rw e refl)

pub made_done : (made : Outcome (List ℕ)) (old new : List ℕ) → made ≡ done new
    → (done (length new) ≡ mapped length made) × (overwritten new old ≡ leaves made old)
unfolding mapped leaves
made_done made old new e = (rw e refl, rw e refl)

-- ---- what an answer says of the outcome that it stands for

module _ {A : Type 0} (r : Result A Refusal) (o : Outcome A) where
  pub outcome_done : (a : A) → r ≡ Ok a → outcome r ≡ o → o ≡ done a
  unfolding outcome
  outcome_done a e p = sym p ∙ rw e refl

  pub outcome_refused : (x : Refusal) → r ≡ Err x → outcome r ≡ o → o ≡ refused (number x) (figure x)
  unfolding outcome
  outcome_refused x e p = sym p ∙ rw e refl

-- ---- a `?`: it hands the refusal of a call on, or the value to what comes behind

pub handed_on : {B : Type 0} (r : Result B Refusal) (x : Refusal) → IsErrAnd r (λ y. y ≡ x) → outcome r ≡ refused (number x) (figure x)
unfolding outcome
handed_on r x h = let p = err_from_is_err_and r h in rw (p.1, p.2) refl

module _ {A B : Type 0} (r : Result B Refusal) (x : Refusal) {a : Outcome A} where
  pub refused_then : (b : Outcome B) → IsErrAnd r (λ y. y ≡ x) → outcome {A = A} (Err x) ≡ a → outcome r ≡ ◌>>◌ a b
  unfolding outcome ◌>>◌
  refused_then b h e = let p = err_from_is_err_and r h in rw (p.1, p.2, sym e) refl

  pub refused_with : (f : A → Outcome B) → IsErrAnd r (λ y. y ≡ x) → outcome {A = A} (Err x) ≡ a → outcome r ≡ ◌>>=◌ a f
  unfolding outcome ◌>>=◌
  refused_with f h e = let p = err_from_is_err_and r h in rw (p.1, p.2, sym e) refl

module _ {A B : Type 0} (v : A) {a : Outcome A} {c : Outcome B} where
  pub passed_then : {b : Outcome B} → outcome (Ok v) ≡ a → c ≡ b → c ≡ ◌>>◌ a b
  unfolding outcome ◌>>◌
  passed_then e p = p ∙ rw (sym e) refl

  pub passed_with : (f : A → Outcome B) → outcome (Ok v) ≡ a → c ≡ f v → c ≡ ◌>>=◌ a f
  unfolding outcome ◌>>=◌
  passed_with f e p = p ∙ rw (sym e) refl
