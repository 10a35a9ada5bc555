use Rattle.std.proofs.Common.{length}
use Rattle.manifest.specs.Steps.{lines_in}
use Rattle.manifest.proofs.Written.{Written}
use Rattle.manifest.proofs.output.write_lines.Given as goal

-- what is written is the beginning of the text, and what is left of that are the other lines
abbrev pub invariant-loop-line : goal.invariant-loop-line
invariant-loop-line l = Written (lines_in l.lines) (length l.initial.out) l.out l.at l.line-index
