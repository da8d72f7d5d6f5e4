-- One turn of a loop that writes a set's bytes: what the rules of `SetBytes` come to with j groups behind it; and runs of stores.
use mathlib.Core.Path.{◌≡◌, refl, sym, ap, ◌∙◌}
use mathlib.Core.Bool.{Bool, not}
use mathlib.Core.List.{List, [], ◌∷◌, ◌++◌}
use Prim.Native.Nat.{ℕ, zero, suc, ◌+◌, ◌-◌, ◌*◌, ◌/◌, ◌%◌, ◌^◌, ◌<◌, ◌≤◌}
use native.Mathlib.Omega.{arith}
use native.Mathlib.Nat.{add-zero, mul_assoc, mul-add, add_assoc, mul-zero, zero-mul, one-mul, mul-one, pow-suc}
use native.Mathlib.Numerals.{add-one}
use mir.Val.{bool_byte}
use lib.Dec.{eqb}
use lib.Pow.{pow_mono}
use lib.ListN.{length, get_or, take, drop, set, length-drop}
use lib.Seq.{sets, sets-eq, length-sets, get_or-take, set-set, set_comm, take-set-le, take_all}
use borrow.Author.Tests.{lt-leb, ne_eqb}
use Rattle.lists.proofs.Overwritten.{sets_front}
use Rattle.job.specs.Refusal.{mapped, demand, room, leaves, overwritten}
use Rattle.job.proofs.Laws.{done_room, leaves_done, leaves_refused}
use Rattle.job_bytes.specs.SetBytes.{group_of, stands, group_bytes, group_map, set_bytes}

less : (j : ℕ) → j < 8 → 8 - j ≡ suc (8 - (j + 1))
less j h = omega arith

pub stands_some : (x : ℕ) → (x ≡ 0 → ⊥) → stands x ≡ 1
unfolding stands
stands_some zero h = absurd (h refl)
stands_some (suc x) h = refl

pub stands_le : (x : ℕ) → stands x ≤ 1
unfolding stands
stands_le zero = omega arith
stands_le (suc x) = omega arith

-- .. as the code reckons it
abbrev pub mark : ℕ → ℕ
mark x = bool_byte (not (eqb x 0))

pub at_most : (x d : ℕ) → d ≤ 1 → x * d ≤ x
at_most x zero h = omega arith
at_most x (suc zero) h = omega arith
at_most x (suc (suc d)) h = absurd (omega arith)

mark_some : (x : ℕ) → mark (suc x) ≡ 1
mark_some x = ap (λ (b : Bool). bool_byte (not b)) (ne_eqb (suc x) 0 (λ e. omega arith))

mark_stands : (x : ℕ) → stands x ≡ mark x
unfolding stands
mark_stands zero = refl
mark_stands (suc x) = sym (mark_some x)

mark_le : (x : ℕ) → mark x ≤ 1
mark_le x = omega (arith, mark_stands x, stands_le x)

-- it at place j
placed : (d j : ℕ) → d ≤ 1 → j < 8 → d * 2 ^ j % 2 ^ 64 ≡ 2 ^ j * d
placed zero j l h = rw (zero-mul, mul-zero) refl
placed (suc zero) j l h = rw (one-mul, mul-one) (omega (arith, pow_mono {i = j} {j = 7} (omega arith)))
placed (suc (suc d)) j l h = absurd (omega arith)

pub mark_placed : (x j : ℕ) → j < 8 → mark x * 2 ^ j % 2 ^ 64 ≡ 2 ^ j * mark x
mark_placed x j h = placed (mark x) j (mark_le x) h

pub mark_adds : (x j : ℕ) → j < 8 → (mark x * 2 ^ j % 2 ^ 64 ≤ 2 ^ j) × (2 ^ j ≤ 2 ^ 7)
mark_adds x j h = (omega (arith, mark_placed x j h, at_most (2 ^ j) (mark x) (mark_le x)), pow_mono {j = 7} (omega arith))

-- a run of one store or more begins where a zero was stored
over_zero : (l vs : List ℕ) (i x : ℕ) → sets l i (vs ++ (x ∷ [])) ≡ sets (set l i 0) i (vs ++ (x ∷ []))
over_zero l [] i x = sym (set-set l i 0 x)
over_zero l (v ∷ vs) i x = ap (λ (k : List ℕ). sets k (suc i) (vs ++ (x ∷ []))) (sym (set-set l i 0 v))

one_group : (x : ℕ) (l vs : List ℕ) (i : ℕ) → sets l i (group_of x vs ++ (0 ∷ [])) ≡ sets (set l i x) (i + mark x) (vs ++ (0 ∷ []))
unfolding group_of
one_group zero l vs i = let e : i + mark 0 ≡ i = omega arith in rw e (over_zero l vs i 0)
one_group (suc x) l vs i = let e : i + mark (suc x) ≡ suc i = omega (arith, mark_some x) in rw e refl

group_long : (x : ℕ) (vs : List ℕ) → length (group_of x vs) ≡ mark x + length vs
unfolding group_of
group_long zero vs = omega arith
group_long (suc x) vs = omega (arith, mark_some x)

-- group j: its byte is stored and may be written over, its bit is added to the map
module _ (j n : ℕ) (h : j < 8) where
  bytes_turn : group_bytes (8 - j) n ≡ group_of (n % 256) (group_bytes (8 - (j + 1)) (n / 256))
  unfolding group_bytes
  bytes_turn = rw (less j h) refl

  pub stores_turn : (l : List ℕ) (i : ℕ)
      → sets l i (group_bytes (8 - j) n ++ (0 ∷ [])) ≡ sets (set l i (n % 256)) (i + mark (n % 256)) (group_bytes (8 - (j + 1)) (n / 256) ++ (0 ∷ []))
  stores_turn l i = rw bytes_turn (one_group (n % 256) l (group_bytes (8 - (j + 1)) (n / 256)) i)

  pub long_turn : length (group_bytes (8 - j) n) ≡ mark (n % 256) + length (group_bytes (8 - (j + 1)) (n / 256))
  long_turn = ap length bytes_turn ∙ group_long (n % 256) (group_bytes (8 - (j + 1)) (n / 256))

  pub map_turn : (map : ℕ) → map + 2 ^ j * group_map (8 - j) n ≡ (map + 2 ^ j * mark (n % 256)) + 2 ^ (j + 1) * group_map (8 - (j + 1)) (n / 256)
  unfolding group_map
  map_turn map = rw (less j h, add-one j, pow-suc, mark_stands (n % 256), mul_assoc, mul-add, add_assoc) refl

pub map_end : (j n map : ℕ) → j ≡ 8 → map + 2 ^ j * group_map (8 - j) n ≡ map
unfolding group_map
map_end j n map e = rw (e, mul-zero, add-zero)

pub bytes_end : (j n : ℕ) → j ≡ 8 → group_bytes (8 - j) n ≡ []
unfolding group_bytes
bytes_end j n e = rw e

-- a set takes a map and at most eight group bytes
groups_le : (k n : ℕ) → length (group_bytes k n) ≤ k
unfolding group_bytes group_of
groups_le zero n = omega arith
groups_le (suc k) n = go (n % 256) (groups_le k (n / 256))
  where
    go : (x : ℕ) → length (group_bytes k (n / 256)) ≤ k → length (group_of x (group_bytes k (n / 256))) ≤ suc k
    go zero r = omega arith
    go (suc x) r = omega arith

pub set_bytes_lem : (s : ℕ) → set_bytes s ≡ group_map 8 s ∷ group_bytes 8 s
unfolding set_bytes
set_bytes_lem s = refl

pub set_length : (s : ℕ) → length (set_bytes s) ≡ suc (length (group_bytes 8 s))
set_length s = ap length (set_bytes_lem s)

pub set_le : (s : ℕ) → length (set_bytes s) ≤ 9
set_le s = omega (arith, set_length s, groups_le 8 s)

-- ---- runs of stores

pub sets_append : (xs l ys : List ℕ) (i : ℕ) → sets l i (xs ++ ys) ≡ sets (sets l i xs) (i + length xs) ys
sets_append [] l ys i = rw add-zero
sets_append (x ∷ xs) l ys i =
    let e : suc i + length xs ≡ i + suc (length xs) = omega arith in
    rw (← e) (sets_append xs (set l i x) ys (suc i))

-- .. behind a run that has a zero behind it
pub next_over : (vs ws l : List ℕ) (i x : ℕ) → sets (sets l i (vs ++ (0 ∷ []))) (i + length vs) (ws ++ (x ∷ [])) ≡ sets l i (vs ++ (ws ++ (x ∷ [])))
next_over vs ws l i x =
    rw (sets_append vs l (0 ∷ []) i) (sym (over_zero (sets l i vs) ws (i + length vs) x)) ∙ sym (sets_append vs l (ws ++ (x ∷ [])) i)

-- a store before a run of stores
store_before : (vs l : List ℕ) (i k v : ℕ) → k < i → set (sets l i vs) k v ≡ sets (set l k v) i vs
store_before [] l i k v h = refl
store_before (x ∷ vs) l i k v h =
    store_before vs (set l i x) (suc i) k v (omega arith) ∙ ap (λ (y : List ℕ). sets y (suc i) vs) (set_comm l i k x v (omega arith))

-- the map is stored last
pub map_last : (s i : ℕ) (l : List ℕ) → set (sets l (i + 1) (group_bytes 8 s ++ (0 ∷ []))) i (group_map 8 s) ≡ sets l i (set_bytes s ++ (0 ∷ []))
unfolding set_bytes
map_last s i l = rw (add-one i) (store_before (group_bytes 8 s ++ (0 ∷ [])) l (suc i) i (group_map 8 s) (omega arith))

-- what was stored from the start of a list l, with a zero byte behind it
module _ (new l out : List ℕ) (n : ℕ) (end : n ≡ 0 + length new) (stored : out ≡ sets l 0 (new ++ (0 ∷ []))) (h : length new < length l) where
  pub own_bytes : take n out ≡ new
  own_bytes =
      rw (stored, sets_append new l (0 ∷ []) 0, take-set-le n (sets l 0 new) (0 + length new) 0 (omega arith))
      (sets_front new l n (omega arith) (omega arith))

  pub own_fits : n ≤ length out
  own_fits = omega (arith, ap length stored, length-sets l 0 (new ++ (0 ∷ [])))

pub own_map : (s n : ℕ) (out : List ℕ) → n ≡ 0 + length (set_bytes s) → take n out ≡ set_bytes s → get_or out 0 0 ≡ group_map 8 s
own_map s n out end e = sym (get_or-take n out 0 0 (omega (arith, set_length s))) ∙ ap (λ (x : List ℕ). get_or x 0 0) (e ∙ set_bytes_lem s)

-- ---- what writing leaves: the new entries if the list takes them, else nothing new
module _ (new old : List ℕ) where
  abbrev pub put : List ℕ
  put = leaves (mapped {A = Unit {0}} (λ _. new) (room (length old) (length new))) old

  pub put_front : length new ≤ length old → put ≡ new ++ drop (length new) old
  unfolding overwritten
  put_front h = leaves_done {A = Unit {0}} (λ _. new) (room (length old) (length new)) tt old (done_room (length old) (length new) h)

  pub put_fits : length new ≤ length old → put ≡ sets old 0 new
  put_fits h = let z : 0 + length new ≡ length new = omega arith in put_front h ∙ sym (rw z at (sets-eq new old 0 (omega arith)))

  pub put_short : length old < length new → put ≡ old
  unfolding room demand
  put_short h = leaves_refused {A = Unit {0}} (λ _. new) (room (length old) (length new)) 9 (length new) old (rw (lt-leb (length new) (length old) h) refl)

-- ---- the part from offset k on, as code takes it
pub rest_is : (l : List ℕ) (k : ℕ) → take (length l - k) (drop k l) ≡ drop k l
rest_is l k = take_all (length l - k) (drop k l) (rw length-drop (omega arith))

pub rest_long : (l : List ℕ) (k : ℕ) → length (take (length l - k) (drop k l)) ≡ length l - k
rest_long l k = rw (rest_is, length-drop)
