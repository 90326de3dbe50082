use Rattle.std.proofs.Common.{refl, rules}
use Rattle.eevdf_bench.proofs.EngineAnswers.{answered_as, any_input, written, begun, no_other, results_differ, of_input, on_err, only_write, report_written, noted_of_input}
use Rattle.std.proofs.lemmas.Result.{on_ok_weaker}
use Rattle.eevdf_bench.proofs.workbench_engine.engine_with_input.Goals as goal

-- what the workload is refused for is none of an end, and the writer is as it was
pub returns-in-Err-clause-carries_out : goal.returns-in-Err-clause-carries_out
returns-in-Err-clause-carries_out g c = record {
  report = search rules;
  one_thread = search rules;
  refused = of_input c.args.command _ _ c.in_ok-bytes.bytes.items c.in-Err.fault c.deref.ensures.value c.in_ok-bytes.ensures.bytes c.in-Err.ensures.answer.0;
  thread = λ is. c.in-Err.ensures.thread cc;
  begun = λ is. absurd (results_differ _ _ c.in-Err.ensures.answer.1.1 is);
  consumed = λ _ _. c.in_ok-bytes.ensures.consumed;
  limit = c.in_ok-bytes.ensures.limit;
  read_whole = search rules;
  written_whole = search rules;
  flushed = search rules;
  read = λ is. absurd (results_differ _ _ c.in-Err.ensures.answer.1.0 is);
  unfailed = λ _. c.in_ok-bytes.ensures.whole;
  write = λ is. absurd (results_differ _ _ c.in-Err.ensures.answer.1.1 is);
  unwritten = λ _. refl;
}

-- what fails after that is the writer
pub returns-clause-carries_out : goal.returns-clause-carries_out
returns-clause-carries_out g c = record {
  report =
      on_ok_weaker _
      (written c.args.command _ c.in_ok-bytes.bytes.items c.deref-2.result.now _ _ c.in_ok-bytes.ensures.bytes
      (answered_as c.args.command _ _ _ _ c.deref.ensures.value c.deref-2.ensures.value c.in-Ok.ensures.answer)) c.write_text.ensures.written;
  one_thread =
      on_ok_weaker _
      (report_written c.args.command _ c.in_ok-bytes.bytes.items _ c.deref-2.result.now _ _ _ c.in_ok-bytes.ensures.bytes
      c.deref.ensures.value c.deref-2.ensures.value c.in-Ok.ensures.one_thread) c.write_text.ensures.written;
  refused = only_write _ _ c.write_text.ensures.kind (any_input _);
  thread = search rules;
  begun = λ e.
      begun c.args.command _ c.in_ok-bytes.bytes.items c.deref-2.result.now _ _ _ c.in_ok-bytes.ensures.bytes
      (answered_as c.args.command _ _ _ _ c.deref.ensures.value c.deref-2.ensures.value c.in-Ok.ensures.answer)
      (on_err _ _ _ c.write_text.ensures.begun e);
  consumed = λ _ _. c.in_ok-bytes.ensures.consumed;
  limit = c.in_ok-bytes.ensures.limit;
  read_whole = on_ok_weaker _ (λ _. c.in_ok-bytes.ensures.whole) c.write_text.ensures.whole;
  written_whole = c.write_text.ensures.whole;
  flushed = c.write_text.ensures.flushed;
  read = λ is. cc (no_other _ _ c.write_text.ensures.kind is);
  unfailed = only_write _ _ c.write_text.ensures.kind (λ _. c.in_ok-bytes.ensures.whole);
  write = λ is. on_err _ _ _ c.write_text.ensures.failed is;
  unwritten = only_write _ _ c.write_text.ensures.kind (λ differs. absurd (differs refl));
}

pub returns-clause-noted : goal.returns-clause-noted
returns-clause-noted g c =
    on_ok_weaker _
    (λ _. noted_of_input _ c.in_ok-bytes.bytes.items _ _ c.in_ok-bytes.ensures.bytes c.deref.ensures.value c.in-Ok.ensures.noted)
    c.write_text.ensures.whole
