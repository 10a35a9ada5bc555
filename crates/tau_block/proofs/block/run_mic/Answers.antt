use Rattle.std.proofs.Common.{arith}
use Rattle.tau_block.proofs.Composed.{listen-left}
use Rattle.tau_block.proofs.Few.{filter-few, update-few, deliver-few}
use Rattle.tau_block.proofs.block.run_mic.Goals as goal

pub overflow_add-result : goal.overflow_add-result
overflow_add-result c =
    let both = filter-few c.filter-checked.result c.filter-checked.new.mic _ _ _ _ _ c.filter-checked.ensures.filtered in
    omega (arith, both.0, both.1)

pub overflow_add-result-2 : goal.overflow_add-result-2
overflow_add-result-2 c =
    let both = filter-few c.filter-checked.result c.filter-checked.new.mic _ _ _ _ _ c.filter-checked.ensures.filtered in
    let learned = update-few c.update-update_overs.new.mic _ _ _ _ _ _ _ _ _ c.update-update_overs.ensures.updated in
    omega (arith, both.0, both.1, learned, c.args.played.now.ring.at_most_32)

pub overflow_add-result-3 : goal.overflow_add-result-3
overflow_add-result-3 c =
    let both = filter-few c.filter-checked.result c.filter-checked.new.mic _ _ _ _ _ c.filter-checked.ensures.filtered in
    let learned = update-few c.update-update_overs.new.mic _ _ _ _ _ _ _ _ _ c.update-update_overs.ensures.updated in
    omega (arith, both.0, both.1, learned, c.args.played.now.ring.at_most_32, deliver-few c.deliver-overs.new.mic _ _ _ _ _ _ _ _ _ _ c.deliver-overs.ensures.delivered)

pub returns : goal.returns
returns c =
    listen-left _ _ _ _ c.filter-checked.result c.filter-checked.new.estimates c.judge-compared.result
    c.energy-near_energy.ensures
    c.filter-checked.ensures.filtered
    c.filter-checked.ensures.others_stay
    c.judge-compared.ensures.judged
    c.judge-compared.ensures.others_stay
    c.update-update_overs.ensures.updated
    c.update-update_overs.ensures.others_stay
    c.deliver-overs.ensures.delivered
    c.deliver-overs.ensures.others_stay
