use Rattle.std.proofs.Common.{◌≡◌, ℕ, ◌<◌, List, Float, length, get_or, ap, ◌∙◌, refl, arith, rules}
use Rattle.std.specs.Float.{nan}
use Rattle.laws.specs.Loops.{over, over-at}
use Rattle.numbers.specs.Narrowing.{narrow_of}
use Rattle.rho_taps.proofs.update.steps_of.Goals as goal

-- r has the numbers of p narrowed
narrowed : (f : ℕ → Float) (p z : List Float) {r : List Float} → length z ≡ 32 → length p ≡ 32 → ((k : ℕ) → k < 32 → get_or p k nan ≡ f k)
    → r ≡ over (length p) (λ k x. narrow_of (get_or p k nan)) z → (k : ℕ) → k < 32 → get_or r k nan ≡ narrow_of (f k)
narrowed f p z b m e q k l =
    ap (λ (y : List Float). get_or y k nan) q
    ∙ over-at nan (length p) k (λ k x. narrow_of (get_or p k nan)) z (omega arith) (omega arith)
    ∙ ap narrow_of (e k l)

pub returns : goal.returns
returns c = let m : length c.products_of-products.result ≡ 32 = search rules in narrowed _ c.products_of-products.result _ refl m c.products_of-products.ensures c.narrow_into.ensures.0
