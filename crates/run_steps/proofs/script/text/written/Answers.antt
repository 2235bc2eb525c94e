use Rattle.std.specs.Option.{option_map}
use Rattle.std.proofs.lemmas.Result.{err_from_is_err_and}
use Rattle.link_net.proofs.Simples.{network_simple}
use Rattle.run_steps.proofs.script.Answering.{memory-only}
use Rattle.run_steps.proofs.script.Saids.{text-read}
use Rattle.run_steps.proofs.script.Wholes.{text-said, text-refused}
use Rattle.run_steps.proofs.script.text.written.Goals as goal

pub returns-in_err-steps-clause-refused : goal.returns-in_err-steps-clause-refused
returns-in_err-steps-clause-refused c =
    let p = err_from_is_err_and c.from_residual.result c.from_residual.ensures.1 in
    rw (p.1, p.2) (λ never. text-refused c.args.network.now (option_map (λ n. n.now) c.args.names) c.args.text.now (network_simple c.args.network.now c.nodes-nodes.ensures.whole) _ (c.in_err-steps.ensures never))

pub returns-in_err-steps-clause-memory : goal.returns-in_err-steps-clause-memory
returns-in_err-steps-clause-memory c =
    let p = err_from_is_err_and c.from_residual.result c.from_residual.ensures.1 in
    λ steps said. rw (p.1, p.2) (memory-only c.in_err-steps.field-0.0 (λ never. (let gives = text-read c.args.network.now (option_map (λ n. n.now) c.args.names) (network_simple c.args.network.now c.nodes-nodes.ensures.whole) c.args.text.now steps said in let stops = c.in_err-steps.ensures never in cc)))

pub returns-clause-steps : goal.returns-clause-steps
returns-clause-steps c = text-said c.args.network.now (option_map (λ n. n.now) c.args.names) c.args.text.now _ c.in_ok-steps.ensures

pub returns-clause-only : goal.returns-clause-only
returns-clause-only c = λ steps said. (let gives = text-read c.args.network.now (option_map (λ n. n.now) c.args.names) (network_simple c.args.network.now c.nodes-nodes.ensures.whole) c.args.text.now steps said in let made = c.in_ok-steps.ensures in cc)

pub returns-clause-few : goal.returns-clause-few
returns-clause-few c = (let said = text-said c.args.network.now (option_map (λ n. n.now) c.args.names) c.args.text.now _ c.in_ok-steps.ensures in said.few)
