use Rattle.tau_fresh.specs.Refusals.{sized_of}
use borrow.Author.Tests.{eq-eqb, ne_eqb}
use Rattle.tau_fresh.proofs.refusals.sizes_fit.Goals as goal

pub returns-then-shadow-n : goal.returns-then-shadow-n
unfolding sized_of
returns-then-shadow-n c = rw (ne_eqb _ _ c.if-shadow-n.true)

pub returns-then-output-n : goal.returns-then-output-n
unfolding sized_of
returns-then-output-n c = rw (eq-eqb _ _ c.if-shadow-n.false, ne_eqb _ _ c.if-output-n.true)

pub returns-then-spectra-n : goal.returns-then-spectra-n
unfolding sized_of
returns-then-spectra-n c = rw (eq-eqb _ _ c.if-shadow-n.false, eq-eqb _ _ c.if-output-n.false, ne_eqb _ _ c.if-spectra-n.true)

pub returns : goal.returns
unfolding sized_of
returns c = rw (eq-eqb _ _ c.if-shadow-n.false, eq-eqb _ _ c.if-output-n.false, eq-eqb _ _ c.if-spectra-n.false)
