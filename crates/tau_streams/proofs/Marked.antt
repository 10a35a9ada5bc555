-- M12, from the counts of a stream and of a flush. Assumes nothing.
use mathlib.Core.Path.{◌≡◌, sym, ◌∙◌}
use native.Mathlib.Omega.{arith}
use Rattle.tau_frame.specs.Pairs.{Engine, pairs_of}
use Rattle.tau_streams.specs.Stream.{Good, processed_of}
use Rattle.tau_streams.specs.Marked.{Created, M12, M12Calls}
use Rattle.tau.proofs.Accepted.{create-answers, flush-answers}
use Rattle.tau_streams.proofs.Counts.{pairs-intact, created-good, created-empty, delivers, carries, flushed-delivers, flush-delivers}
use Rattle.tau_streams.proofs.Cut.{row-delivers, row_carries}

created-is : (e : Engine) → Created e → Good e × (e.state.carried ≡ 0)
created-is e c =
    let h = sym (create-answers c.parts c.flag c.shadow c.output c.spectra c.powers) ∙ c.accepted in
    rw c.left
    (created-good c.parts c.flag c.shadow c.output c.spectra c.powers h, created-empty c.parts c.flag c.shadow c.output c.spectra c.powers h)

pub m12 : M12
m12 e near far c l =
    let g = created-is e c in
    let z = g.1 in
    let d = delivers e near far g.0.ranged l in
    let k = carries e near far g.0.ranged l in
    let f = flushed-delivers (pairs_of e near far).engine (pairs-intact e near far g.0).ranged in
    (λ n. omega (arith, n, d, z), λ n. omega (arith, n, d, z), λ n. (omega (arith, n, d, z), omega (arith, n, k, f, z)))

pub m12-calls : M12Calls
m12-calls e ps c h =
    let g = created-is e c in
    let z = g.1 in
    let d = row-delivers e ps g.0.ranged h in
    let k = row_carries e ps g.0.ranged h in (
      λ n. omega (arith, n, d, z),
      λ n. omega (arith, n, d, z),
      λ n. (
        omega (arith, n, d, z),
        λ out a.
            let f = (flush-delivers (processed_of e ps).run.engine out (sym (flush-answers (processed_of e ps).run.engine out) ∙ a)).count in
            omega (arith, n, k, f, z),
      ),
    )
