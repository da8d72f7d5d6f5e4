-- The candidates in groups by their next use: how a walk finds the groups, what goes first of those left, and what stays.
use mathlib.Core.Path.{◌≡◌, refl, sym, ap, ◌∙◌}
use mathlib.Core.List.{List, [], ◌∷◌}
use mathlib.Core.Logic.{◌⊎◌, inl, inr, ⊎_elim}
use Prim.Native.Nat.{ℕ, zero, suc, ◌+◌, ◌-◌, ◌^◌, ◌≤◌, ◌<◌, min}
use native.Mathlib.Omega.{arith}
use native.Mathlib.Decide.{ℕ_discrete, dec_le}
use lib.ListN.{length, get_or, drop, set}
use lib.Seq.{get_or-set_same, get_or-set_other}
use Rattle.bitset.specs.Set.{◌∩◌, ◌∪◌, ◌∖◌, size, bit}
use Rattle.bitset.proofs.Bits.{bit-∩, bit-∪, bit-∖, bit_empty, bit_other, same_by_bits, size_empty, sizes_eq}
use Rattle.bitset.proofs.Laws.{∖-∖}
use Rattle.bitset.proofs.Element.{some, size_insert, ∈-pos}
use Rattle.bitset.proofs.Parts.{◌≼◌, empty-≼, without-≼, single-≼, positive, in_range}
use Rattle.drive.specs.declared.choice.NextUse.{NextUse}
use Rattle.drive.specs.declared.choice.NextUse.TheVariants.{At, Never}
use Rattle.drive.specs.declared.choice.Candidate.{Candidate}
use Rattle.drive.specs.Uses.{later, use_by, next_use}
use Rattle.drive.specs.Plan.{furthest, victims}
use Rattle.drive.specs.Steps.{together}
use Rattle.drive.specs.ContractWords.{Grouped, GoesBefore, UsedAt, GoesFirst}
use Rattle.drive.proofs.Turns.{step_of, use_wanted, use_later, use_never}
use Rattle.drive.proofs.Staying.{First, same_before, further_before, never_before, sooner_stays, victims_first, none_first, more_first, less_first}

-- ---- what the later steps want together

pub together_never : (c : ℕ) (ws : List ℕ) → bit c (together ws) ≡ 0 → next_use c ws ≡ Never
unfolding together next_use use_by later
together_never c [] e = refl
together_never c (w ∷ ws) e =
    let b = bit-∪ c w (together ws) in
    let o : bit c w ≡ 0 = omega arith in
    rw (o, together_never c ws (omega arith)) refl

pub together_used : (c : ℕ) (ws : List ℕ) → bit c (together ws) ≡ 1 → next_use c ws ≡ Never → ⊥
unfolding together next_use
together_used c [] e n = omega (arith, bit_empty c)
together_used c (w ∷ ws) e n = go (bit c w) refl (next_use c ws) (together_used c ws) n
  where
    go : (d : ℕ) → bit c w ≡ d → (u : NextUse) → (bit c (together ws) ≡ 1 → u ≡ Never → ⊥) → use_by d u ≡ Never → ⊥
    go zero i Never rest f = rest (omega (arith, bit-∪ c w (together ws))) refl
    go zero i (At m) rest f = unfold use_by later in (let z : ◌≡◌ {A = ℕ} 0 1 = cc in omega arith)
    go (suc d) i u rest f = unfold use_by in (let z : ◌≡◌ {A = ℕ} 0 1 = cc in omega arith)

-- ---- the walk

pub without_none : (s : ℕ) → s ∖ 0 ≡ s
without_none s = same_by_bits (s ∖ 0) s (λ c. omega (arith, bit-∖ c s 0, bit_empty c))

other : (l : List ℕ) (j m x : ℕ) → j < m → get_or (set l m x) j 0 ≡ get_or l j 0
other l j m x h = get_or-set_other l m j x 0 (λ e. omega arith)

-- nothing is found yet: the candidates that are used again are left
pub grouped_start : (cs used : ℕ) (groups when ws : List ℕ) → used ≡ together ws → Grouped (cs ∖ (cs ∩ used)) (cs ∖ used) 0 groups when ws
grouped_start cs used groups when ws e =
    record {
      few = omega arith;
      never = λ c i. let b = bit-∖ c cs used in (omega (arith, bit-∖ c cs (cs ∩ used), bit-∩ c cs used), together_never c ws (omega (arith, ap (bit c) e)));
      used = λ j c h. absurd (omega arith);
      all = λ c i u. absurd (omega (arith, bit-∖ c cs used, bit-∖ c cs (cs ∩ used), bit-∩ c cs used));
      rising = λ i j l h. absurd (omega arith);
      some = λ j h. absurd (omega arith);
    }

-- the candidates `hit`, whose next use is step k, are the next group, where there are any
module _ {cs unused m : ℕ} {groups when ws : List ℕ} (g : Grouped cs unused m groups when ws) (hit k n : ℕ) (room : m < 64) (sets : 64 ≤ length groups)
    (steps : 64 ≤ length when)
    (next : (c : ℕ) → bit c hit ≡ 1 → next_use c ws ≡ At k) (soon : (j : ℕ) → j < m → get_or when j 0 < k) (none : hit ≡ 0 → n ≡ m)
    (more : 0 < hit → n ≡ m + 1)
  where
    slot : (j : ℕ) → j < n → (j < m) ⊎ ((j ≡ m) × (0 < hit))
    slot j h = go hit refl (dec_le m j)
      where
        go : (s : ℕ) → hit ≡ s → Dec (m ≤ j) → (j < m) ⊎ ((j ≡ m) × (0 < hit))
        go s e (no l) = inl (omega arith)
        go zero e (yes l) = absurd (omega (arith, none e))
        go (suc s) e (yes l) = let p : 0 < hit = omega arith in inr (omega (arith, more p), p)

    new_set : get_or (set groups m hit) m 0 ≡ hit
    new_set = get_or-set_same groups m hit 0 (omega arith)

    new_step : get_or (set when m k) m 0 ≡ k
    new_step = get_or-set_same when m k 0 (omega arith)

    reach : m ≤ n
    reach = go hit refl
      where
        go : (s : ℕ) → hit ≡ s → m ≤ n
        go zero e = omega (arith, none e)
        go (suc s) e = omega (arith, more (omega arith))

    pub soon_next : (j : ℕ) → j < n → get_or (set when m k) j 0 < k + 1
    soon_next j h = ⊎_elim (λ l. rw (other when j m k l) (omega (arith, soon j l))) (λ l. rw (l.0, new_step) (omega arith)) (slot j h)

    pub grouped_next : Grouped (cs ∪ hit) unused n (set groups m hit) (set when m k) ws
    grouped_next =
        record {
          few = go hit refl;
          never = λ c i. let o = g.never c i in (omega (arith, bit-∪ c cs hit, o.0), o.1);
          used = λ j c h i. member j c i (slot j h);
          all = λ c i u. found c i u (bit c hit) refl;
          rising = λ i j l h. order i j l (slot j h);
          some = λ j h. ⊎_elim (λ l. rw (other groups j m hit l) (g.some j l)) (λ l. rw (l.0, new_set) l.1) (slot j h);
        }
      where
        go : (s : ℕ) → hit ≡ s → n ≤ 64
        go zero e = omega (arith, none e)
        go (suc s) e = omega (arith, more (omega arith))

        member : (j c : ℕ) → bit c (get_or (set groups m hit) j 0) ≡ 1 → (j < m) ⊎ ((j ≡ m) × (0 < hit))
            → (bit c (cs ∪ hit) ≡ 1) × (next_use c ws ≡ At (get_or (set when m k) j 0))
        member j c i (inl l) =
            let o = g.used j c l (rw (other groups j m hit l) at i) in
            (omega (arith, bit-∪ c cs hit, o.0), o.1 ∙ ap At (sym (other when j m k l)))
        member j c i (inr l) =
            let h : bit c hit ≡ 1 = rw (l.0, new_set) at i in
            (omega (arith, bit-∪ c cs hit), next c h ∙ ap At (sym (rw l.0 new_step)))

        found : (c : ℕ) → bit c (cs ∪ hit) ≡ 1 → bit c unused ≡ 0 → (b : ℕ) → bit c hit ≡ b → (j : ℕ) × (j < n) × (bit c (get_or (set groups m hit) j 0) ≡ 1)
        found c i u zero e =
            let o = g.all c (omega (arith, bit-∪ c cs hit)) u in
            (o.0, omega (arith, o.1, reach), rw (other groups o.0 m hit o.1) o.2)
        found c i u (suc b) e = (m, omega (arith, more (∈-pos c hit (omega arith))), rw new_set (omega arith))

        order : (i j : ℕ) → i < j → (j < m) ⊎ ((j ≡ m) × (0 < hit)) → get_or (set when m k) i 0 < get_or (set when m k) j 0
        order i j l (inl h) = rw (other when i m k (omega arith), other when j m k h) (g.rising i j l h)
        order i j l (inr h) = let b : i < m = omega (arith, h.0) in rw (other when i m k b, h.0, new_step) (soon i b)

-- ---- what a step of the walk meets

pub step_zero : (u : NextUse) → step_of 0 u ≡ u
unfolding step_of
step_zero Never = refl
step_zero (At m) = ap At (omega arith)

-- a candidate that is left is used in a later step, so there is one
pub used_ends : (x used k : ℕ) (later : List ℕ) → used ≡ together later → bit x used ≡ 1 → next_use x later ≡ step_of k (next_use x (drop k later))
    → k < length later
used_ends x used k later e i ahead = go (dec_le (length later) k)
  where
    go : Dec (length later ≤ k) → k < length later
    go (yes l) = absurd (together_used x later (omega (arith, ap (bit x) e)) (ahead ∙ use_never x k later l))
    go (no l) = omega arith

-- one step of the walk: what it wants of those left
pub record Met (cs left hit k : ℕ) (later : List ℕ) : Type 0 where
  pub split : size hit + size (left ∖ hit) ≡ size left
  pub others : cs ∖ (left ∖ hit) ≡ cs ∖ left ∪ hit
  pub found : (c : ℕ) → bit c hit ≡ 1 → next_use c later ≡ At k
  pub still : (c : ℕ) → bit c (left ∖ hit) ≡ 1 → next_use c later ≡ step_of (k + 1) (next_use c (drop (k + 1) later))

pub one_met : (cs used left hit k : ℕ) (later : List ℕ) → k < length later → left ≼ cs ∩ used
    → ((c : ℕ) → bit c left ≡ 1 → next_use c later ≡ step_of k (next_use c (drop k later)))
    → hit ≡ left ∩ get_or later k 0 → Met cs left hit k later
one_met cs used left hit k later h part ahead e =
    record {
      split = omega (arith, sizes_eq (left ∷ []) (hit ∷ left ∖ hit ∷ []) (λ c. omega (arith, wanted c, bit-∖ c left hit)));
      others = same_by_bits _ _ (λ c. omega (
        arith,
        wanted c,
        part c,
        bit-∩ c cs used,
        bit-∖ c cs (left ∖ hit),
        bit-∖ c left hit,
        bit-∪ c (cs ∖ left) hit,
        bit-∖ c cs left,
      ));
      found = λ c i. let b = wanted c in ahead c (omega arith) ∙ use_wanted c k later h (omega arith);
      still = λ c i. let b = wanted c in let d = bit-∖ c left hit in ahead c (omega arith) ∙ use_later c k later h (omega arith);
    }
  where
    wanted : (c : ℕ) → bit c hit ≡ min (bit c left) (bit c (get_or later k 0))
    wanted c = ap (bit c) e ∙ bit-∩ c left (get_or later k 0)

-- ---- groups of which some candidates are chosen: none is left of those from `count` on, and some of each other
pub record Open (found count chosen : ℕ) (groups : List ℕ) : Type 0 where
  pub within : count ≤ found
  pub gone : (j c : ℕ) → count ≤ j → j < found → bit c (get_or groups j 0) ≡ 1 → bit c chosen ≡ 1
  pub left : (j : ℕ) → j < count → 0 < get_or groups j 0 ∖ chosen

module _ {cs unused found : ℕ} {groups when ws : List ℕ} (g : Grouped cs unused found groups when ws) where
  abbrev group : ℕ → ℕ
  group j = get_or groups j 0

  -- ---- from the far end
  module _ {count chosen : ℕ} (o : Open found count chosen groups) where
    -- a candidate left that is used again is in one of the groups left
    in_group : (d : ℕ) → bit d (cs ∖ chosen) ≡ 1 → bit d unused ≡ 0 → (j : ℕ) × (j < count) × (bit d (group j) ≡ 1)
    in_group d m n = let a = g.all d (omega (arith, bit-∖ d cs chosen)) n in go a.0 a.1 a.2 (dec_le count a.0)
      where
        go : (j : ℕ) → j < found → bit d (group j) ≡ 1 → Dec (count ≤ j) → (j : ℕ) × (j < count) × (bit d (group j) ≡ 1)
        go j h i (yes l) = absurd (omega (arith, bit-∖ d cs chosen, o.gone j d l h i))
        go j h i (no l) = (j, omega arith, i)

    -- some are never used, where no group is left
    pub some_never : count ≡ 0 → 0 < size (cs ∖ chosen) → 0 < unused ∖ chosen
    some_never z h = let c = some (cs ∖ chosen) (positive (cs ∖ chosen) h) in go c.0 c.1 (bit c.0 unused) refl
      where
        go : (c : ℕ) → bit c (cs ∖ chosen) ≡ 1 → (b : ℕ) → bit c unused ≡ b → 0 < unused ∖ chosen
        go c i zero e = absurd (omega (arith, (in_group c i e).1))
        go c i (suc b) e = ∈-pos c (unused ∖ chosen) (omega (arith, bit-∖ c unused chosen, bit-∖ c cs chosen))

    -- the first of those never used
    never_goes : (r : Candidate) → GoesFirst ws (unused ∖ chosen) r → GoesFirst ws (cs ∖ chosen) r
    never_goes r p =
        let v = r.curve in
        let n = g.never v (omega (arith, p.0, bit-∖ v unused chosen)) in
        (omega (arith, n.0, p.0, bit-∖ v unused chosen, bit-∖ v cs chosen), (p.1.0, λ d m. go d m n.1 (bit d unused) refl))
      where
        go : (d : ℕ) → bit d (cs ∖ chosen) ≡ 1 → next_use r.curve ws ≡ Never → (b : ℕ) → bit d unused ≡ b → GoesBefore ws r.curve d
        go d m n zero e = let a = in_group d m e in never_before r.curve d ws _ n (g.used a.0 d (omega (arith, a.1, o.within)) a.2).1
        go d m n (suc b) e = p.1.1 d (omega (arith, bit-∖ d unused chosen, bit-∖ d cs chosen))

    -- the first of the last group, where none is left that is never used
    last_goes : (l : ℕ) → count ≡ l + 1 → unused ∖ chosen ≡ 0 → (r : Candidate) → GoesFirst ws (group l ∖ chosen) r → GoesFirst ws (cs ∖ chosen) r
    last_goes l s z r p =
        let v = r.curve in
        let h : l < found = omega (arith, o.within) in
        let n = g.used l v h (omega (arith, p.0, bit-∖ v (group l) chosen)) in (
          omega (arith, n.0, p.0, bit-∖ v (group l) chosen, bit-∖ v cs chosen),
          (
            p.1.0,
            λ d m. let a = in_group d m (omega (arith, bit-∖ d unused chosen, bit-∖ d cs chosen, ap (bit d) z, bit_empty d)) in go d m h n.1
                a.0 a.1 a.2 (ℕ_discrete a.0 l),
          ),
        )
      where
        go : (d : ℕ) → bit d (cs ∖ chosen) ≡ 1 → l < found → next_use r.curve ws ≡ At (get_or when l 0) → (j : ℕ) → j < count
            → bit d (group j) ≡ 1 → Dec (j ≡ l) → GoesBefore ws r.curve d
        go d m h n j b k (yes e) = p.1.1 d (omega (arith, ap (λ (i : ℕ). bit d (group i)) e, bit-∖ d (group l) chosen, bit-∖ d cs chosen))
        go d m h n j b k (no e) = further_before r.curve d ws _ _ n (g.used j d (omega (arith, o.within)) k).1 (g.rising j l (omega arith) h)

    -- what goes first of those never used, or else of the last group, goes first of all that are left
    pub goes_first : 0 < size (cs ∖ chosen) → (r : Candidate) → (0 < unused ∖ chosen → UsedAt Never (unused ∖ chosen) ws → GoesFirst ws (unused ∖ chosen) r)
        → (unused ∖ chosen ≡ 0 → 0 < group (count - 1) ∖ chosen → UsedAt (At (get_or when (count - 1) 0)) (group (count - 1) ∖ chosen) ws
        → GoesFirst ws (group (count - 1) ∖ chosen) r)
        → GoesFirst ws (cs ∖ chosen) r
    goes_first h r never last = go (unused ∖ chosen) refl (dec_le count 0)
      where
        go : (n : ℕ) → unused ∖ chosen ≡ n → Dec (count ≤ 0) → GoesFirst ws (cs ∖ chosen) r
        go zero e (yes l) = absurd (omega (arith, some_never (omega arith) h))
        go zero e (no l) =
            let w = o.within in
            last_goes (count - 1) (omega arith) e r (last e (o.left (count - 1) (omega arith))
            (λ c i. (g.used (count - 1) c (omega arith) (omega (arith, bit-∖ c (group (count - 1)) chosen))).1))
        go (suc n) e d = never_goes r (never (omega arith) (λ c i. (g.never c (omega (arith, bit-∖ c unused chosen))).1))

    -- v, which goes first, was chosen too, and what is left of the last group counts: r groups are left then
    module _ (v r : ℕ) (first : (d : ℕ) → bit d (cs ∖ chosen) ≡ 1 → GoesBefore ws v d) (none : group (count - 1) ∖ chosen ∖ 2 ^ v ≡ 0 → r ≡ count - 1)
        (more : 0 < group (count - 1) ∖ chosen ∖ 2 ^ v → r ≡ count) where
      -- v is in no group but the last
      apart : (j : ℕ) → j + 1 < count → bit v (group j) ≡ 1 → ⊥
      apart j h i = go count refl
        where
          go : (n : ℕ) → count ≡ n → ⊥
          go zero e = omega arith
          go (suc l) e =
              let x = some (group l ∖ chosen) (o.left l (omega arith)) in
              let b = bit-∖ x.0 (group l) chosen in
              let w = o.within in
              let u = g.used l x.0 (omega arith) (omega (arith, x.1)) in
              sooner_stays v x.0 ws _ _ (g.used j v (omega arith) i).1 u.1 (g.rising j l (omega arith) (omega arith))
              (first x.0 (omega (arith, u.0, x.1, bit-∖ x.0 cs chosen)))

      whole : (j : ℕ) → j + 1 < count → group j ∖ (chosen ∪ 2 ^ v) ≡ group j ∖ chosen
      whole j h = same_by_bits _ _ (λ c. go c (ℕ_discrete c v))
        where
          go : (c : ℕ) → Dec (c ≡ v) → bit c (group j ∖ (chosen ∪ 2 ^ v)) ≡ bit c (group j ∖ chosen)
          go c (no e) = omega (arith, bit-∖ c (group j) (chosen ∪ 2 ^ v), bit-∖ c (group j) chosen, bit-∪ c chosen (2 ^ v), bit_other c v e)
          go c (yes e) =
              let z : bit c (group j) ≡ 0 = out (bit c (group j)) refl in
              omega (arith, bit-∖ c (group j) (chosen ∪ 2 ^ v), bit-∖ c (group j) chosen)
            where
              out : (b : ℕ) → bit c (group j) ≡ b → b ≡ 0
              out zero i = refl
              out (suc b) i = let o : bit c (group j) ≡ 1 = omega arith in absurd (apart j h (rw e at o))

      pub open_next : Open found r (chosen ∪ 2 ^ v) groups
      open_next = go (group (count - 1) ∖ chosen ∖ 2 ^ v) refl
        where
          passed : (j c : ℕ) → count ≤ j → j < found → bit c (group j) ≡ 1 → bit c (chosen ∪ 2 ^ v) ≡ 1
          passed j c l h i = omega (arith, bit-∪ c chosen (2 ^ v), o.gone j c l h i)

          still : (j : ℕ) → j + 1 < count → 0 < group j ∖ (chosen ∪ 2 ^ v)
          still j h = rw (whole j h) (o.left j (omega arith))

          go : (n : ℕ) → group (count - 1) ∖ chosen ∖ 2 ^ v ≡ n → Open found r (chosen ∪ 2 ^ v) groups
          go zero e =
              let f = none e in
              record { within = omega (arith, o.within); gone = λ j c l h i. last j c l h i (dec_le count j); left = λ j h. still j (omega arith) }
            where
              last : (j c : ℕ) → r ≤ j → j < found → bit c (group j) ≡ 1 → Dec (count ≤ j) → bit c (chosen ∪ 2 ^ v) ≡ 1
              last j c l h i (yes p) = passed j c p h i
              last j c l h i (no p) =
                  let f = none e in
                  let q : j ≡ count - 1 = omega arith in
                  omega (arith, bit-∪ c chosen (2 ^ v), bit-∖ c (group j ∖ chosen) (2 ^ v), bit-∖ c (group j) chosen, bit_empty c, ap (bit c) (rw (← q) at e))
          go (suc n) e =
              let f = more (omega arith) in
              record {
                within = omega (arith, o.within);
                gone = λ j c l h i. passed j c (omega arith) h i;
                left = λ j h. last j (omega arith)
                    (ℕ_discrete count (j + 1));
              }
            where
              last : (j : ℕ) → j < count → Dec (count ≡ j + 1) → 0 < group j ∖ (chosen ∪ 2 ^ v)
              last j h (yes q) =
                  let p : j ≡ count - 1 = omega arith in
                  rw (sym (∖-∖ (group j) chosen (2 ^ v)), p) (omega arith)
              last j h (no q) = still j (omega arith)

  -- ---- from the near end: none of the groups before j is left
  module _ (left j : ℕ) (part : left ≼ cs) (passed : (i c : ℕ) → i < j → bit c (group i) ≡ 1 → bit c left ≡ 0) where
    -- those of group j that stay go last
    pub group_stays : (stay : ℕ) → j < found → stay ≼ left ∩ group j → ((c d : ℕ) → bit c (left ∩ group j) ≡ 1 → bit c stay ≡ 0 → bit d stay ≡ 1 → d < c)
        → (c d : ℕ) → bit c left ≡ 1 → bit c stay ≡ 0 → bit d stay ≡ 1 → GoesBefore ws c d
    group_stays stay h own tie c d m n i = go (bit c unused) refl
      where
        there : next_use d ws ≡ At (get_or when j 0)
        there = (g.used j d h (omega (arith, own d, bit-∩ d left (group j)))).1

        behind : (k : ℕ) → k < found → bit c (group k) ≡ 1 → Dec (k ≡ j) → Dec (j ≤ k) → GoesBefore ws c d
        behind k l u (yes e) f =
            let u' : bit c (group j) ≡ 1 = rw e at u in
            let t = tie c d (omega (arith, bit-∩ c left (group j))) n i in
            same_before c d ws _ (g.used j c h u').1 there (omega arith)
        behind k l u (no e) (yes f) = further_before c d ws _ _ (g.used k c l u).1 there (g.rising j k (omega arith) l)
        behind k l u (no e) (no f) = absurd (omega (arith, passed k c (omega arith) u))

        go : (b : ℕ) → bit c unused ≡ b → GoesBefore ws c d
        go zero e = let a = g.all c (omega (arith, part c)) e in behind a.0 a.1 a.2 (ℕ_discrete a.0 j) (dec_le j a.0)
        go (suc b) e = never_before c d ws _ (g.never c (omega arith)).1 there

    -- all of group j stays
    pub next_first : j < found → First cs left ws → First cs (left ∖ group j) ws
    next_first h f =
        let e : left ∖ (left ∩ group j) ≡ left ∖ group j =
        same_by_bits _ _ (λ c. omega (arith, bit-∖ c left (left ∩ group j), bit-∖ c left (group j), bit-∩ c left (group j))) in
        rw e at (less_first cs left (left ∩ group j) ws (group_stays (left ∩ group j) h (λ c. omega arith) (λ c d m n i. absurd (omega arith))) f)

    -- no group is left
    pub never_stays : (stay : ℕ) → found ≤ j → stay ≼ left → ((c d : ℕ) → bit c left ≡ 1 → bit c stay ≡ 0 → bit d stay ≡ 1 → d < c)
        → (c d : ℕ) → bit c left ≡ 1 → bit c stay ≡ 0 → bit d stay ≡ 1 → GoesBefore ws c d
    never_stays stay h own tie c d m n i =
        let t = tie c d m n i in same_before c d ws Never (unneeded c m (bit c unused) refl) (unneeded d (omega (arith, own d)) (bit d unused) refl)
        (omega arith)
      where
        unneeded : (x : ℕ) → bit x left ≡ 1 → (b : ℕ) → bit x unused ≡ b → next_use x ws ≡ Never
        unneeded x k zero e = let a = g.all x (omega (arith, part x)) e in absurd (omega (arith, passed a.0 x (omega (arith, a.1)) a.2))
        unneeded x k (suc b) e = (g.never x (omega arith)).1

-- ---- those that stay are found
pub stay_victims : (cs left stay excess : ℕ) (ws : List ℕ) → cs < 2 ^ 64 → left ≼ cs → stay ≼ left → size stay + excess ≡ size left
    → ((c d : ℕ) → bit c left ≡ 1 → bit c stay ≡ 0 → bit d stay ≡ 1 → GoesBefore ws c d) → First cs left ws → left ∖ stay ≡ victims (furthest 64) excess cs ws
stay_victims cs left stay excess ws range part own count after f =
    let n : size (left ∖ stay) ≡ excess = omega (arith, sizes_eq (left ∷ []) (stay ∷ left ∖ stay ∷ []) (λ c. omega (arith, own c, bit-∖ c left stay))) in
    sym (victims_first 64 excess cs (left ∖ stay) ws n (in_range 64 cs range) (without-≼ left stay cs part) (less_first cs left stay ws after f))

-- ---- one by one from the far end: `chosen` go before all other candidates, and `more` are to be chosen, `excess` in all
pub record Chosen (cs found count chosen excess more : ℕ) (groups ws : List ℕ) : Type 0 where
  pub part : chosen ≼ cs
  pub size_chosen : size chosen + more ≡ excess
  pub first : First cs chosen ws
  pub opened : Open found count chosen groups

module _ {cs unused found : ℕ} {groups when ws : List ℕ} (g : Grouped cs unused found groups when ws) where
  pub chosen_start : (excess more : ℕ) → more ≡ excess → Chosen cs found found 0 excess more groups ws
  chosen_start excess more all =
      record {
        part = empty-≼ cs;
        size_chosen = omega (arith, size_empty);
        first = none_first cs ws;
        opened = record { within = omega arith; gone = λ j c l h. absurd (omega arith); left = λ j h. rw (without_none (get_or groups j 0)) (g.some j h) };
      }

  module _ {count chosen excess more : ℕ} (q : Chosen cs found count chosen excess (suc more) groups ws) where
    -- there are others
    pub chosen_left : excess ≤ size cs → 0 < size (cs ∖ chosen)
    chosen_left h = omega (arith, q.size_chosen, sizes_eq (cs ∷ []) (chosen ∷ cs ∖ chosen ∷ []) (λ c. omega (arith, q.part c, bit-∖ c cs chosen)))

    pub chosen_next : (v r : ℕ) → bit v (cs ∖ chosen) ≡ 1 → ((d : ℕ) → bit d (cs ∖ chosen) ≡ 1 → GoesBefore ws v d)
        → (get_or groups (count - 1) 0 ∖ chosen ∖ 2 ^ v ≡ 0 → r ≡ count - 1) → (0 < get_or groups (count - 1) 0 ∖ chosen ∖ 2 ^ v → r ≡ count)
        → Chosen cs found r (chosen ∪ 2 ^ v) excess more groups ws
    chosen_next v r i next none some_left =
        let b = bit-∖ v cs chosen in
        record {
          part = λ c. omega (arith, bit-∪ c chosen (2 ^ v), q.part c, single-≼ v cs (omega arith) c);
          size_chosen = omega (arith, q.size_chosen, size_insert v chosen (λ e. omega arith));
          first = more_first cs chosen v ws next q.first;
          opened = open_next g q.opened v r next none some_left;
        }
