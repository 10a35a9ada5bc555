-- `manifest::split::split_line` meets its contract: the bytes before the newline, and those behind it. Assumes nothing.
use Rattle.std.proofs.Common.{◌∙◌}
use Rattle.manifest.proofs.Lines.{first-line, behind-none, behind-newline}
use Rattle.manifest.proofs.split.split_line.Goals as goal

pub returns-in-empty-clause-line : goal.returns-in-empty-clause-line
returns-in-empty-clause-line c = c.split_at.ensures.front ∙ first-line c.args.text.now c.line_len.ensures.value

pub returns-in-empty-clause-rest : goal.returns-in-empty-clause-rest
returns-in-empty-clause-rest c = c.split_at.ensures.back ∙ behind-none c.args.text.now c.line_len.ensures.value (rw c.split_at.ensures.back at c.in-empty.len_below)

pub returns-in-len1-up-clause-line : goal.returns-in-len1-up-clause-line
returns-in-len1-up-clause-line c = c.split_at.ensures.front ∙ first-line c.args.text.now c.line_len.ensures.value

pub returns-in-len1-up-clause-rest : goal.returns-in-len1-up-clause-rest
returns-in-len1-up-clause-rest c = rw c.split_at.ensures.back (behind-newline c.args.text.now c.line_len.ensures.value)
