use Rattle.std.proofs.Common.{sym, subst, []}
use Rattle.std.specs.Io.KnownBytes.{Consumes}
use Rattle.pipe.proofs.Behind.{none_lost}
use Rattle.pipe.proofs.program.Streams.read.Goals as goal

pub returns-in-Err-clause-bytes : goal.returns-in-Err-clause-bytes
returns-in-Err-clause-bytes g c =
    let left = g.R.Read.remaining c.args.self.now.input in
    subst (λ (i : g.row.R.Denot). Consumes left (g.R.Read.remaining i) []) (sym c.say.ensures.input_stays) (none_lost left (g.R.Read.remaining c.read.new.self) c.in-Err.ensures.bytes)
