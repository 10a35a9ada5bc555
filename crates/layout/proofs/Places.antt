-- `place` and `back` undo each other within a partition. Assumes nothing.
use mathlib.Core.Path.{◌≡◌, sym, ap, ◌∙◌}
use Prim.Native.Nat.{ℕ, ◌+◌, ◌*◌, ◌/◌, ◌%◌, ◌<◌}
use native.Mathlib.Omega.{arith}
use Rattle.layout.specs.Layout.{place, back}

quot : (p t : ℕ) → t < 514 → (514 * p + t) / 514 ≡ p
quot p t h = omega arith

rest : (p t : ℕ) → t < 514 → (514 * p + t) % 514 ≡ t
rest p t h = omega arith

half : (k b : ℕ) → b < 2 → (2 * k + b) / 2 ≡ k
half k b h = omega arith

parity : (k b : ℕ) → b < 2 → (2 * k + b) % 2 ≡ b
parity k b h = omega arith

which : (k b : ℕ) → k < 257 → (257 * b + k) / 257 ≡ b
which k b h = omega arith

bin : (k b : ℕ) → k < 257 → (257 * b + k) % 257 ≡ k
bin k b h = omega arith

-- part b, 0 the real and 1 the imaginary one, of bin k of partition p
pub place_at : (p k b : ℕ) → k < 257 → b < 2 → place (514 * p + (2 * k + b)) ≡ 514 * p + (257 * b + k)
unfolding place
place_at p k b h l =
    let t : 2 * k + b < 514 = omega arith in
    rw (quot p (2 * k + b) t, rest p (2 * k + b) t, parity k b l, half k b l)

back_at : (p k b : ℕ) → k < 257 → b < 2 → back (514 * p + (257 * b + k)) ≡ 514 * p + (2 * k + b)
unfolding back
back_at p k b h l =
    let t : 257 * b + k < 514 = omega arith in
    rw (quot p (257 * b + k) t, rest p (257 * b + k) t, which k b h, bin k b h)

split-pair : (i : ℕ) → i ≡ 514 * (i / 514) + (2 * (i % 514 / 2) + i % 514 % 2)
split-pair i = omega arith

split-part : (i : ℕ) → i ≡ 514 * (i / 514) + (257 * (i % 514 / 257) + i % 514 % 257)
split-part i = omega arith

pub back-place : (i : ℕ) → back (place i) ≡ i
back-place i =
    let p = i / 514 in
    let k = i % 514 / 2 in
    let b = i % 514 % 2 in
    let h : k < 257 = omega arith in
    let l : b < 2 = omega arith in
    ap (λ (j : ℕ). back (place j)) (split-pair i) ∙ ap back (place_at p k b h l) ∙ back_at p k b h l ∙ sym (split-pair i)

pub place-back : (i : ℕ) → place (back i) ≡ i
place-back i =
    let p = i / 514 in
    let k = i % 514 % 257 in
    let b = i % 514 / 257 in
    let h : k < 257 = omega arith in
    let l : b < 2 = omega arith in
    ap (λ (j : ℕ). place (back j)) (split-part i) ∙ ap place (back_at p k b h l) ∙ place_at p k b h l ∙ sym (split-part i)

pub place-below : (n i : ℕ) → n % 514 ≡ 0 → i < n → place i < n
unfolding place
place-below n i e h = omega arith

pub back_below : (n i : ℕ) → n % 514 ≡ 0 → i < n → back i < n
unfolding back
back_below n i e h = omega arith

-- within one partition
pub place-shift : (p i : ℕ) → i < 514 → place (514 * p + i) ≡ 514 * p + place i
unfolding place
place-shift p i h =
    let z : i / 514 ≡ 0 = omega arith in
    let r : i % 514 ≡ i = omega arith in
    rw (quot p i h, rest p i h, z, r) (omega arith)

one_place : (k b : ℕ) → k < 257 → b < 2 → place (2 * k + b) ≡ 257 * b + k
one_place k b h l =
    let z : 2 * k + b ≡ 514 * 0 + (2 * k + b) = omega arith in
    ap place z ∙ place_at 0 k b h l ∙ omega arith

pub real-place : (k : ℕ) → k < 257 → place (2 * k) ≡ k
real-place k h =
    let z : 2 * k ≡ 2 * k + 0 = omega arith in
    ap place z ∙ one_place k 0 h (omega arith) ∙ omega arith

pub imaginary-place : (k : ℕ) → k < 257 → place (2 * k + 1) ≡ 257 + k
imaginary-place k h = one_place k 1 h (omega arith) ∙ omega arith
