use Rattle.eevdf_bench.proofs.EngineAnswers.{refused, answered, reported}
use Rattle.eevdf_bench.proofs.workbench_engine.answer.Goals as goal

pub returns-in-Err-clause-answer : goal.returns-in-Err-clause-answer
returns-in-Err-clause-answer g c = refused c.args.command c.args.input.now c.in-Err.fault c.in-Err.ensures

pub returns-clause-answer : goal.returns-clause-answer
returns-clause-answer g c = answered c.args.command c.args.input.now c.in-Ok.workload c.text_of.result c.in-Ok.ensures c.text_of.ensures.answer

pub returns-clause-one_thread : goal.returns-clause-one_thread
returns-clause-one_thread g c = reported c.args.command c.args.input.now c.in-Ok.workload c.text_of.result c.in-Ok.ensures c.text_of.ensures.one_thread
