-- `recorded::put` meets its contract: both records are written, the second behind the first. Assumes nothing.
use native.Mathlib.Omega.{arith}
use Rattle.record.specs.Kind.{number_of}
use Rattle.recorded.proofs.Both.{is-taken, as_wrote, both-length, second-space, first_ends, wrote-both}
use Rattle.recorded.proofs.put.Goals as goal

pub unwrap-start-requires : goal.unwrap-start-requires
unwrap-start-requires c =
    let l = both-length (number_of c.args.kind) c.args.payload.now c.args.delivered.now in
    is-taken _ _ _ _ c.write_record.ensures c.requires.payloads_fit.0 (omega (arith, l, c.requires.room))

pub slice_bounds-write_record-count : goal.slice_bounds-write_record-count
slice_bounds-write_record-count c =
    first_ends _ _ _ _ c.requires.payloads_fit c.requires.room _ (as_wrote _ _ _ _ c.write_record.ensures c.unwrap-start.ensures)

pub slice_bounds-write_record-start : goal.slice_bounds-write_record-start
slice_bounds-write_record-start c =
    first_ends _ _ _ _ c.requires.payloads_fit c.requires.room _ (as_wrote _ _ _ _ c.write_record.ensures c.unwrap-start.ensures)

pub unwrap-more-requires : goal.unwrap-more-requires
unwrap-more-requires c = is-taken _ _ _ _ c.write_record-2.ensures c.requires.payloads_fit.1
    (second-space _ _ _ _ c.requires.payloads_fit c.requires.room _ (as_wrote _ _ _ _ c.write_record.ensures c.unwrap-start.ensures))

pub overflow_add-result : goal.overflow_add-result
overflow_add-result c =
    let w = wrote-both _ _ _ _ c.requires.payloads_fit c.requires.room _ (as_wrote _ _ _ _ c.write_record.ensures c.unwrap-start.ensures) _
    (as_wrote _ _ _ _ c.write_record-2.ensures c.unwrap-more.ensures) in
    omega (arith, w.0, c.requires.room)

pub returns : goal.returns
returns c =
    let w = wrote-both _ _ _ _ c.requires.payloads_fit c.requires.room _ (as_wrote _ _ _ _ c.write_record.ensures c.unwrap-start.ensures) _
    (as_wrote _ _ _ _ c.write_record-2.ensures c.unwrap-more.ensures) in
    record { written = w.0; out_after = w.1 }
