-- A set of curves that is written reads back, and bytes that read as a set are those that are written for it.
use mathlib.Core.Path.{◌≡◌, refl, sym, ap, ◌∙◌, subst}
use mathlib.Core.List.{List, [], ◌∷◌, ◌++◌}
use Prim.Native.Nat.{ℕ, zero, suc, ◌+◌, ◌*◌, ◌/◌, ◌%◌, ◌^◌, ◌≤◌, ◌<◌}
use native.Mathlib.Omega.{arith}
use native.Mathlib.Nat.{add-mul, mul_assoc, mul_comm, mul-le-mul_right}
use native.Mathlib.Decide.{dec_le}
use lib.Dec.{ltb}
use lib.Pow.{pow-add, pow_pos, pow_mono}
use lib.Bits.{or_shifted_r, or_zero_r, or_lt}
use lib.ListN.{length}
use borrow.Author.Tests.{ltb-true, lt-ltb}
use Rattle.bitset.specs.Set.{◌∪◌, bit, inside}
use Rattle.bitset.proofs.Bits.{bit_suc, bit_beyond, same_by_bits}
use Rattle.job.specs.Refusal.{Outcome, done, ◌>>=◌, ◌>>◌, demand}
use Rattle.job.specs.Handed.{all_curves}
pub use Rattle.job_bytes.specs.SetBytes.{Bytes}
use Rattle.job_bytes.specs.SetBytes.{group_of, stands, group_bytes, group_map, Got, got, byte_at, read_group, read_groups}
use Rattle.job.proofs.Laws.{refused≢done, demand_true, both_bind}
use Rattle.job.proofs.JobExact.{below_inside, inside_below}
use Rattle.job_bytes.proofs.Encoding.{stands_le}

-- ---- groups of eight

shift_suc : (t j : ℕ) → t * 2 ^ (8 * suc j) ≡ 256 * t * 2 ^ (8 * j)
shift_suc t j =
    let e : 8 * suc j ≡ 8 * j + 8 = omega arith in
    rw (e, pow-add 2 (8 * j) 8) (ap (λ (x : ℕ). t * x) (mul_comm (2 ^ (8 * j)) 256) ∙ sym (mul_assoc t 256 (2 ^ (8 * j)))
    ∙ ap (λ (x : ℕ). x * 2 ^ (8 * j)) (mul_comm t 256))

shift_split : (s j : ℕ) → s * 2 ^ (8 * j) ≡ s % 256 * 2 ^ (8 * j) + s / 256 * 2 ^ (8 * suc j)
shift_split s j =
    let e : s ≡ s % 256 + 256 * (s / 256) = omega arith in
    ap (λ (x : ℕ). x * 2 ^ (8 * j)) e ∙ add-mul (s % 256) (256 * (s / 256)) (2 ^ (8 * j))
    ∙ ap (λ (x : ℕ). s % 256 * 2 ^ (8 * j) + x) (sym (shift_suc (s / 256) j))

room_suc : (s j b : ℕ) → s < 2 ^ (8 * j) → b < 256 → s + b * 2 ^ (8 * j) < 2 ^ (8 * suc j)
room_suc s j b h l =
    let e : 8 * suc j ≡ 8 + 8 * j = omega arith in
    rw (e, pow-add 2 8 (8 * j)) (omega (arith, mul-le-mul_right (2 ^ (8 * j)) (below l), add-mul b 1 (2 ^ (8 * j))))
  where
    below : b < 256 → b + 1 ≤ 256
    below l = omega arith

-- the lowest bit of the map, and the others
map_first : (k s : ℕ) → bit 0 (group_map (suc k) s) ≡ stands (s % 256)
unfolding group_map
map_first k s = omega (arith, stands_le (s % 256))

map_next : (k s m : ℕ) → bit (suc m) (group_map (suc k) s) ≡ bit m (group_map k (s / 256))
unfolding group_map
map_next k s m =
    let e : (stands (s % 256) + 2 * group_map k (s / 256)) / 2 ≡ group_map k (s / 256) = omega (arith, stands_le (s % 256)) in
    bit_suc m (stands (s % 256) + 2 * group_map k (s / 256)) ∙ ap (bit m) e

pub map_lt : (k s : ℕ) → group_map k s < 2 ^ k
unfolding group_map
map_lt zero s = omega arith
map_lt (suc k) s = omega (arith, map_lt k (s / 256), stands_le (s % 256))

-- ---- written, then read
module _ (owed empty unknown curves M : ℕ) where
  read_back : (k j acc i s : ℕ) (rest : List ℕ) → ((m : ℕ) → m < k → bit (j + m) M ≡ bit m (group_map k s)) → s < 2 ^ (8 * k) → s * 2 ^ (8 * j) < 2 ^ curves
      → acc < 2 ^ (8 * j)
      → read_groups owed empty unknown curves k j M acc i (group_bytes k s ++ rest) ≡ done (got (acc + s * 2 ^ (8 * j)) (i + length (group_bytes k s)) rest)
  unfolding read_groups group_bytes read_group byte_at group_of stands ◌>>=◌ ◌>>◌ demand
  read_back zero j acc i s rest bits small known low =
      let z : s ≡ 0 = omega arith in
      let v : acc ≡ acc + s * 2 ^ (8 * j) = rw z (omega arith) in
      let n : i ≡ i + 0 = omega arith in
      rw (← v, ← n) refl
  read_back (suc k) j acc i s rest bits small known low = go (s % 256) refl (read_back k (suc j))
    where
      t : ℕ
      t = s / 256

      split : s * 2 ^ (8 * j) ≡ s % 256 * 2 ^ (8 * j) + t * 2 ^ (8 * suc j)
      split = shift_split s j

      bits' : (m : ℕ) → m < k → bit (suc j + m) M ≡ bit m (group_map k t)
      bits' m l = let e : suc j + m ≡ j + suc m = omega arith in ap (λ (x : ℕ). bit x M) e ∙ bits (suc m) (omega arith) ∙ map_next k s m

      here : bit j M ≡ stands (s % 256)
      here = let e : j ≡ j + 0 = omega arith in ap (λ (x : ℕ). bit x M) e ∙ bits 0 (omega arith) ∙ map_first k s

      small' : t < 2 ^ (8 * k)
      small' = let e : 8 * suc k ≡ 8 + 8 * k = omega arith in omega (arith, rw (e, pow-add 2 8 (8 * k)) at small)

      go : (b : ℕ) → s % 256 ≡ b
          → ((acc i s : ℕ) (rest : List ℕ) → ((m : ℕ) → m < k → bit (suc j + m) M ≡ bit m (group_map k s)) → s < 2 ^ (8 * k)
          → s * 2 ^ (8 * suc j) < 2 ^ curves → acc < 2 ^ (8 * suc j)
          → read_groups owed empty unknown curves k (suc j) M acc i (group_bytes k s ++ rest)
          ≡ done (got (acc + s * 2 ^ (8 * suc j)) (i + length (group_bytes k s)) rest))
          → ◌>>=◌ (read_group owed empty unknown curves (bit j M) j i (group_of b (group_bytes k t) ++ rest))
          (λ g. read_groups owed empty unknown curves k (suc j) M (acc ∪ g.value) g.next g.rest)
          ≡ done (got (acc + s * 2 ^ (8 * j)) (i + length (group_of b (group_bytes k t))) rest)
      go zero e ih =
          let z : bit j M ≡ 0 = here ∙ ap stands e in
          let sp : s * 2 ^ (8 * j) ≡ 0 * 2 ^ (8 * j) + t * 2 ^ (8 * suc j) = split ∙ ap (λ (x : ℕ). x * 2 ^ (8 * j) + t * 2 ^ (8 * suc j)) e in
          let v : acc + t * 2 ^ (8 * suc j) ≡ acc + s * 2 ^ (8 * j) = omega arith in
          rw (z, or_zero_r acc) (ih acc i t rest bits' small' (omega arith) (omega (arith, room_suc acc j 0 low (omega arith))) ∙ rw v refl)
      go (suc b) e ih =
          let o : bit j M ≡ 1 = here ∙ ap stands e in
          let sp : s * 2 ^ (8 * j) ≡ suc b * 2 ^ (8 * j) + t * 2 ^ (8 * suc j) = split ∙ ap (λ (x : ℕ). x * 2 ^ (8 * j) + t * 2 ^ (8 * suc j)) e in
          let v : (suc b * 2 ^ (8 * j) + acc) + t * 2 ^ (8 * suc j) ≡ acc + s * 2 ^ (8 * j) = omega arith in
          let n : suc i + length (group_bytes k t) ≡ i + suc (length (group_bytes k t)) = omega arith in
          rw (o, lt-ltb 0 (suc b) (omega arith), below_inside curves (suc b * 2 ^ (8 * j)) (omega arith), or_shifted_r (suc b) (8 * j) acc low)
          (ih (suc b * 2 ^ (8 * j) + acc) (suc i) t rest bits' small' (omega arith) (omega (arith, room_suc acc j (suc b) low (omega arith))) ∙ rw (v, n) refl)

-- A SET THAT IS WRITTEN READS BACK
pub set_back : (owed empty unknown curves i s : ℕ) (rest : List ℕ) → curves ≤ 64 → s < 2 ^ curves
    → read_groups owed empty unknown curves 8 0 (group_map 8 s) 0 i (group_bytes 8 s ++ rest) ≡ done (got s (i + length (group_bytes 8 s)) rest)
set_back owed empty unknown curves i s rest c h =
    let v : 0 + s * 2 ^ (8 * 0) ≡ s = omega arith in
    read_back owed empty unknown curves (group_map 8 s) 8 0 0 i s rest (λ m l. let e : 0 + m ≡ m = omega arith in ap (λ (x : ℕ). bit x (group_map 8 s)) e)
    (omega (arith, pow_mono c)) (omega arith) (omega arith)
    ∙ rw v refl

-- ---- read, then written

-- what was read: the set x of k groups from group j on
record Exact (curves M k j acc i : ℕ) (bs : List ℕ) (g : Got ℕ) : Type 0 where
  x : ℕ
  small : x < 2 ^ (8 * k)
  bytes : bs ≡ group_bytes k x ++ g.rest
  value : g.value ≡ acc + x * 2 ^ (8 * j)
  next : g.next ≡ i + length (group_bytes k x)
  bits : (m : ℕ) → m < k → bit (j + m) M ≡ bit m (group_map k x)
  known : acc < 2 ^ curves → g.value < 2 ^ curves
  tail : Bytes g.rest

group_append : (b : ℕ) (l r : List ℕ) → group_of b (l ++ r) ≡ group_of b l ++ r
unfolding group_of
group_append zero l r = refl
group_append (suc b) l r = refl

group_length : (b : ℕ) (l : List ℕ) → length (group_of b l) ≡ stands b + length l
unfolding group_of stands
group_length zero l = omega arith
group_length (suc b) l = omega arith

module _ (curves M k j acc i b : ℕ) (bs : List ℕ) (g : Got ℕ) (byte : b < 256) (here : bit j M ≡ stands b)
    (own : acc < 2 ^ curves → acc + b * 2 ^ (8 * j) < 2 ^ curves) where
  exact_suc : Exact curves M k (suc j) (acc + b * 2 ^ (8 * j)) (i + stands b) bs g → Exact curves M (suc k) j acc i (group_of b bs) g
  unfolding group_bytes
  exact_suc e =
      record {
        x = b + 256 * e.x;
        small = let p : 8 * suc k ≡ 8 + 8 * k = omega arith in rw (p, pow-add 2 8 (8 * k)) (omega (arith, e.small));
        bytes = ap (group_of b) e.bytes ∙ group_append b (group_bytes k e.x) g.rest ∙ rw (q, r) refl;
        value = omega (arith, e.value, shift_split (b + 256 * e.x) j, ap (λ (y : ℕ). y * 2 ^ (8 * j)) q, ap (λ (y : ℕ). y * 2 ^ (8 * suc j)) r);
        next = rw (q, r) (omega (arith, e.next, group_length b (group_bytes k e.x)));
        bits = at;
        known = λ h. e.known (own h);
        tail = e.tail;
      }
    where
      q : (b + 256 * e.x) % 256 ≡ b
      q = omega arith

      r : (b + 256 * e.x) / 256 ≡ e.x
      r = omega arith

      at : (m : ℕ) → m < suc k → bit (j + m) M ≡ bit m (group_map (suc k) (b + 256 * e.x))
      at zero l = let z : j + 0 ≡ j = omega arith in ap (λ (y : ℕ). bit y M) z ∙ here ∙ sym (map_first k (b + 256 * e.x) ∙ ap stands q)
      at (suc m) l =
          let z : j + suc m ≡ suc j + m = omega arith in
          ap (λ (y : ℕ). bit y M) z ∙ e.bits m (omega arith) ∙ sym (map_next k (b + 256 * e.x) m ∙ ap (λ (y : ℕ). bit m (group_map k y)) r)

module _ (owed empty unknown curves M : ℕ) where
  read_exact : (k j acc i : ℕ) (bs : List ℕ) (g : Got ℕ) → Bytes bs → acc < 2 ^ (8 * j) → read_groups owed empty unknown curves k j M acc i bs ≡ done g
      → Exact curves M k j acc i bs g
  unfolding read_groups read_group byte_at group_bytes stands group_of ◌>>=◌
  read_exact zero j acc i bs g all low e =
      let s : got acc i bs ≡ g = cc in
      subst (Exact curves M zero j acc i bs) s
      (record {
        x = 0;
        small = omega arith;
        bytes = refl;
        value = omega arith;
        next = omega arith;
        bits = λ m l. absurd (omega arith);
        known = λ h. h;
        tail
            = all;
      })
  read_exact (suc k) j acc i bs g all low e = go (bit j M) refl bs all e (λ acc i bs. read_exact k (suc j) acc i bs g)
    where
      go : (d : ℕ) → bit j M ≡ d → (bs : List ℕ) → Bytes bs
          → ◌>>=◌ (read_group owed empty unknown curves d j i bs) (λ h. read_groups owed empty unknown curves k (suc j) M (acc ∪ h.value) h.next h.rest)
          ≡ done g
          → ((acc i : ℕ) (bs : List ℕ) → Bytes bs → acc < 2 ^ (8 * suc j) → read_groups owed empty unknown curves k (suc j) M acc i bs ≡ done g
          → Exact curves M k (suc j) acc i bs g)
          → Exact curves M (suc k) j acc i bs g
      go zero d bs all e ih =
          let z : acc + 0 * 2 ^ (8 * j) ≡ acc = omega arith in
          let n : i + 0 ≡ i = omega arith in
          exact_suc curves M k j acc i 0 bs g (omega arith) d (λ h. omega arith)
          (rw (z, n) (ih acc i bs all (omega (arith, room_suc acc j 0 low (omega arith))) (rw or_zero_r at e)))
      go (suc d) c [] all e ih = absurd (refused≢done e)
      go (suc d) c (b ∷ bs) all e ih =
          let f : Got ℕ → Outcome (Got ℕ) = λ h. read_groups owed empty unknown curves k (suc j) M (acc ∪ h.value) h.next h.rest in
          let x = both_bind (demand (ltb 0 b) empty i)
          (◌>>◌ (demand (inside (b * 2 ^ (8 * j)) (all_curves curves)) unknown i) (done (got (b * 2 ^ (8 * j)) (suc i) bs))) f g e in
          let y = both_bind (demand (inside (b * 2 ^ (8 * j)) (all_curves curves)) unknown i) (done (got (b * 2 ^ (8 * j)) (suc i) bs)) f g x.1 in
          taken b (ltb-true 0 b (demand_true (ltb 0 b) empty i x.0)) (inside_below curves (b * 2 ^ (8 * j)) (demand_true _ unknown i y.0)) all y.1
        where
          taken : (b : ℕ) → 0 < b → b * 2 ^ (8 * j) < 2 ^ curves → Bytes (b ∷ bs)
              → read_groups owed empty unknown curves k (suc j) M (acc ∪ b * 2 ^ (8 * j)) (suc i) bs ≡ done g → Exact curves M (suc k) j acc i (b ∷ bs) g
          taken zero p own all e = absurd (omega arith)
          taken (suc b) p own all e =
              let u : acc ∪ suc b * 2 ^ (8 * j) ≡ acc + suc b * 2 ^ (8 * j) = or_shifted_r (suc b) (8 * j) acc low ∙ omega arith in
              let n : i + 1 ≡ suc i = omega arith in
              let o : bit j M ≡ 1 = omega arith in
              exact_suc curves M k j acc i (suc b) bs g all.0 o (λ h. rw u at (or_lt curves acc (suc b * 2 ^ (8 * j)) h own))
              (rw n (ih (acc + suc b * 2 ^ (8 * j)) (suc i) bs all.1 (room_suc acc j (suc b) low all.0) (rw u at e)))

-- BYTES THAT READ AS A SET are those that are written for it
pub record SetRead (curves M i : ℕ) (bs : List ℕ) (g : Got ℕ) : Type 0 where
  pub map : group_map 8 g.value ≡ M
  pub bytes : bs ≡ group_bytes 8 g.value ++ g.rest
  pub next : g.next ≡ i + length (group_bytes 8 g.value)
  pub known : g.value < 2 ^ curves
  pub tail : Bytes g.rest

pub set_read : (owed empty unknown curves M i : ℕ) (bs : List ℕ) (g : Got ℕ) → M < 256 → Bytes bs → read_groups owed empty unknown curves 8 0 M 0 i bs ≡ done g
    → SetRead curves M i bs g
set_read owed empty unknown curves M i bs g m all e =
    let r : Exact curves M 8 0 0 i bs g = read_exact owed empty unknown curves M 8 0 0 i bs g all (omega arith) e in
    let v : g.value ≡ r.x = omega (arith, r.value) in
    record {
      map = ap (group_map 8) v ∙ same_by_bits (group_map 8 r.x) M (λ c. go r.x r.bits c (dec_le 8 c));
      bytes = rw v r.bytes;
      next = rw v r.next;
      known = r.known (pow_pos curves);
      tail = r.tail;
    }
  where
    go : (x : ℕ) → ((m : ℕ) → m < 8 → bit (0 + m) M ≡ bit m (group_map 8 x)) → (c : ℕ) → Dec (8 ≤ c) → bit c (group_map 8 x) ≡ bit c M
    go x bits c (yes l) = bit_beyond c (group_map 8 x) (omega (arith, map_lt 8 x, pow_mono l)) ∙ sym (bit_beyond c M (omega (arith, pow_mono l)))
    go x bits c (no l) = let z : 0 + c ≡ c = omega arith in sym (bits c (omega arith)) ∙ ap (λ (y : ℕ). bit y M) z
