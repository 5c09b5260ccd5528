use Rattle.tv_texts.proofs.OneMeaning.{one_program, one_initial, one_start, one_moves, one_report, one_source}
use Rattle.tv_texts.proofs.Vocabularies.{initial_also, start_also, trace_text_also, report_text_also}
use Rattle.tv_texts.proofs.laws.one_meaning_each.Goals as goal

pub returns : goal.returns
returns c = record {
  program = one_program c.one_meaning.ensures.one c.one_meaning.ensures.unrefused c.one_refusal.ensures;
  initial = λ p q same text a b h k. one_initial c.one_reading-2.ensures.texts c.one_reading.ensures p text a b h
      (initial_also p q same text b k);
  start = λ p q same text a b h k. one_start p text (one_initial c.one_reading-2.ensures.texts c.one_reading.ensures p text) a b h
      (start_also p q same text b k);
  trace = λ p q same text a b h k. one_moves c.one_meaning-3.ensures c.one_reading.ensures p text a b h
      (trace_text_also p q same text b k);
  report = λ p q same text a b h k. one_report c.one_meaning-2.ensures c.one_reading.ensures p text a b h
      (report_text_also p q same text b k);
  source = one_source c.one_meaning-4.ensures c.one_refusal-2.ensures c.one_reading.ensures;
}
