-- The promises of the kept powers. Assumes nothing.
use mathlib.Core.Path.{refl, sym, ◌∙◌}
use mathlib.Core.List.{List}
use Prim.Native.Nat.{ℕ}
use lib.ListN.{get_or}
use lib.Ieee.{Float, nan, div, mul, lt, of_bits, is_nan}
use Rattle.laws.specs.Choice.{pick}
use Rattle.numbers.specs.Order.{min_of, max_of}
use Rattle.tau_spectra.specs.Far.{hear_far}
use Rattle.tau_update.specs.Update.{factor_of}
use Rattle.tau_block.specs.Block.{Engine, heard_in, run_block}
use Rattle.tau_block_laws.specs.Bounds.{Factor}
use Rattle.tau_block_laws.specs.Powers.{True}
use Rattle.tau_block_laws.proofs.Powers.{block-factor, squared-blind}
use Rattle.tau.proofs.Accepted as accepted
use Rattle.tau_streams.specs.Stream.{Good}
use Rattle.tau_streams.proofs.Powers.{created-true, reset-true, call-true, calls-true, blocks-true, process-own, flush-own, process-squared, flush-squared}
use Rattle.promises.specs.Powers.{PowersWritten, PowersTrue, NoBitChanged, SquaredRule, FalseGone, KeptFactor}

pub powers-written : PowersWritten
unfolding run_block hear_far
powers-written e far b = record { spectra = refl; powers = refl; sum = refl }

pub powers-true : PowersTrue
powers-true = record {
  created = created-true;
  reset = λ e h. reset-true e (sym (accepted.reset-answers e) ∙ h);
  call = call-true;
  calls = calls-true;
}

pub no-bit-changed : NoBitChanged
no-bit-changed e t = record {
  process = λ near far out. sym (process-squared e near far out t);
  flush = λ out. sym (flush-squared e out t);
}

pub squared-rule : SquaredRule
squared-rule = record { process = process-own; flush = flush-own; blind = squared-blind }

pub false-gone : FalseGone
false-gone e near far g = blocks-true e near far g

-- of any engine in order
true-factor : (e : Engine) (far means : List Float) (k : ℕ) → Good e → True e → Factor (factor_of (get_or means k nan) (get_or (heard_in e far).far_power k nan))
true-factor e far means k g t =
    block-factor e far g.ranged.inring (record { shadow = g.shadow; output = g.output; spectra = g.spectra; powers = g.powers }) t means k

pub kept-factor : KeptFactor
unfolding factor_of pick min_of max_of div mul lt of_bits is_nan
kept-factor = (true-factor, refl)
