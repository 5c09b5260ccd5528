use Rattle.std.proofs.Common.{rules, ◌≡◌, ◌<◌, ◌≤◌, ◌-◌, ◌++◌, Ok, sym, refl, ap, subst, ◌∙◌, arith, length}
use Rattle.std.proofs.Common.{false}
use Rattle.std.proofs.Common.{false-eqb, vec_len}
use Rattle.std.proofs.lemmas.Bool.{eqb-true}
use Rattle.std.proofs.lemmas.Result.{err_from_is_err_and, on_ok_weaker}
use Rattle.tv_lex.specs.Include.{inner_name}
use Rattle.tv_lex.specs.Gather.{file_events, included, below}
use Rattle.tv_lex.proofs.Gathering.{read_cause, putting_start, beginning_start, beginning_more, line_cause}
use Rattle.tv_lex.proofs.Gathering.{line_more, line_cut, cause_within, include_put, include_begins}
use Rattle.tv_lex.proofs.Gathering.{include_refused, Putting, Beginning, up_to, unread_begins, line_begins}
use Rattle.tv_lex.proofs.Gathering.{front_begins, include_is}
use Rattle.tv_lex.specs.declared.gatherer.Reading.{Reading}
use Rattle.tv_lex.proofs.Parting.{feed_put, file_begins, file_put, include_put as include_opens}
use Rattle.tv_lex.proofs.Parting.{include_traced, line_in_front}
use Rattle.tv_lex.proofs.Parting.{included_line, line_put, line_read, plain_line, rest_is, rest_shorter}
use Rattle.tv_lex.specs.Traced.{in_line, traced_below, traced_file, traced_include}
use Rattle.tv_lex.proofs.gatherer.+gathering.Goals as goal

pub put_file-returns-in_err-content-clause-cause :
    goal.put_file-returns-in_err-content-clause-cause
put_file-returns-in_err-content-clause-cause g t c =
    let p = err_from_is_err_and c.from_residual.result c.from_residual.ensures.1 in
    let f = g.F.Files in
    rw (p.1, p.2) (read_cause c.in_err-content.field-0.0 (f.holds c.args.files.now) c.args.name.now c.args.out.now.bytes.items c.args.left (f.steady c.args.files.now) (f.faults c.args.files.now) _ c.in_err-content.ensures.cause)

pub put_file-loop-rest-init : goal.put_file-loop-rest-init
put_file-loop-rest-init g t c =
    let f = g.F.Files in
    let told = c.in_ok-content.ensures in
    let fits : length c.in_ok-content.content.items ≤ 4194304 = omega (arith, told.given) in
    let short : length c.as_slice-rest.result.now ≤ 4194304 = rw c.as_slice-rest.ensures.value fits in
    let inside : c.reading_at-reading.result.inside ≡ false = ap (λ (r : Reading). r.inside) c.reading_at-reading.ensures in
    let number : c.reading_at-reading.result.number ≡ 1 = ap (λ (r : Reading). r.number) c.reading_at-reading.ensures in
    let from : c.reading_at-reading.result.start ≡ vec_len c.args.out.now.bytes = ap (λ (r : Reading). r.start) c.reading_at-reading.ensures in
    let start : c.reading_at-reading.result.start ≡ length c.args.out.now.bytes.items = omega (arith, from) in (
      subst (λ b. Putting (f.holds c.args.files.now) c.args.name.now c.args.left c.args.out.now.bytes.items b c.as_slice-rest.result.now c.args.out.now.bytes.items) (sym inside) (rw c.as_slice-rest.ensures.value (putting_start (f.holds c.args.files.now) c.args.name.now c.args.out.now.bytes.items c.in_ok-content.content.items c.args.left told.content fits)),
      subst (λ b. Beginning (f.holds c.args.files.now) c.args.name.now c.args.left c.args.out.now.bytes.items b c.as_slice-rest.result.now c.args.out.now.bytes.items (f.begins c.args.files.now) (f.begins c.read_all.new.files)) (sym inside) (beginning_start (f.holds c.args.files.now) c.args.name.now c.as_slice-rest.result.now c.args.out.now.bytes.items c.args.left (f.begins c.args.files.now) (f.begins c.read_all.new.files) (rw c.as_slice-rest.ensures.value told.content) (rw c.as_slice-rest.ensures.value fits) told.begins_once),
      told.count,
      told.holds,
      told.steady,
      search rules,
      omega (arith, number, short),
      file_begins (f.holds c.args.files.now) c.args.name.now c.as_slice-rest.result.now c.args.left c.args.out.now c.reading_at-reading.result (rw c.as_slice-rest.ensures.value told.content) inside start (ap (λ (r : Reading). r.first) c.reading_at-reading.ensures) number,
    )

pub put_file-returns-in_err-reading-clause-cause : goal.put_file-returns-in_err-reading-clause-cause
put_file-returns-in_err-reading-clause-cause g t c =
    let p = err_from_is_err_and c.from_residual-in_err-reading.result c.from_residual-in_err-reading.ensures.1 in
    let f = g.F.Files in
    let inv = c.loop-rest.invariant in
    let rest = c.loop-rest.rest.now in
    let some : 0 < length rest = omega (arith, false-eqb (length rest) 0 c.loop-rest-test.ensures) in
    let cut = line_cut rest c.split_at.result.0.now c.split_at.result.1.now c.line_len.result some c.line_len.ensures c.split_at.ensures.front c.split_at.ensures.back in
    rw (p.1, p.2) (line_cause c.in_err-reading.field-0.0 (f.holds c.args.files.now) (f.holds c.loop-rest.files) c.args.name.now c.args.out.now.bytes.items rest c.loop-rest.out.bytes.items c.split_at.result.0.now c.split_at.result.1.now c.args.left c.loop-rest.reading.inside (f.steady c.loop-rest.files) (f.steady c.args.files.now) (f.faults c.args.files.now) (f.faults c.loop-rest.files) _ inv.3 inv.0 cut c.in_err-reading.ensures.cause (λ s. (inv.4 s).0) inv.2)

pub put_file-loop-rest-preserved : goal.put_file-loop-rest-preserved
put_file-loop-rest-preserved g t c =
    let f = g.F.Files in
    let inv = c.loop-rest.invariant in
    let said = c.in_ok-reading.ensures in
    let rest = c.loop-rest.rest.now in
    let some : 0 < length rest = omega (arith, false-eqb (length rest) 0 c.loop-rest-test.ensures) in
    let cut = line_cut rest c.split_at.result.0.now c.split_at.result.1.now c.line_len.result some c.line_len.ensures c.split_at.ensures.front c.split_at.ensures.back in
    let split = rest_is rest c.split_at.result.0.now c.split_at.result.1.now c.line_len.result c.split_at.ensures.front c.split_at.ensures.back in
    let is_line = line_in_front rest c.split_at.result.0.now c.split_at.result.1.now c.line_len.result some c.line_len.ensures c.split_at.ensures.front c.split_at.ensures.back in (
      line_more (f.holds c.args.files.now) (f.holds c.loop-rest.files) c.args.name.now c.args.out.now.bytes.items rest c.loop-rest.out.bytes.items c.split_at.result.0.now c.split_at.result.1.now c.put_line.new.out.bytes.items c.args.left c.loop-rest.reading.inside c.in_ok-reading.reading.inside inv.3 inv.0 cut said.next said.put,
      beginning_more (f.holds c.args.files.now) (f.holds c.loop-rest.files) c.args.name.now c.args.out.now.bytes.items rest c.split_at.result.0.now c.split_at.result.1.now c.loop-rest.out.bytes.items c.put_line.new.out.bytes.items c.args.left c.loop-rest.reading.inside c.in_ok-reading.reading.inside (f.begins c.args.files.now) (f.begins c.loop-rest.files) (f.begins c.put_line.new.files) inv.3 inv.1 cut said.next said.put said.begins,
      omega (arith, inv.2, said.count),
      said.holds ∙ inv.3,
      λ s. let before = inv.4 s in let now = said.steady before.0 in (now.0, now.1 ∙ before.1),
      said.fits,
      rest_shorter rest c.split_at.result.0.now c.split_at.result.1.now c.loop-rest.reading.number c.in_ok-reading.reading.number split is_line.some said.number inv.6,
      line_read (f.holds c.args.files.now) (f.holds c.loop-rest.files) c.args.name.now rest c.split_at.result.0.now c.split_at.result.1.now c.args.left c.args.out.now c.loop-rest.out c.put_line.new.out c.loop-rest.reading c.in_ok-reading.reading inv.3 split cut is_line said.next said.number inv.7 said.parts,
    )

pub put_include-returns-in_err-put_file-clause-cause :
    goal.put_include-returns-in_err-put_file-clause-cause
put_include-returns-in_err-put_file-clause-cause g t c =
    let p = err_from_is_err_and c.from_residual-in_err-put_file.result c.from_residual-in_err-put_file.ensures.1 in
    let f = g.F.Files in
    let told = f.holds c.args.files.now in
    let name = c.args.name.now in
    let line = c.args.line.now in
    let old = c.args.out.now.bytes.items in
    let left = c.args.left in
    let written = c.in-Some.written.now in
    let inner = c.as_str.result.now in
    let some : 0 < left = omega (arith, c.if-left-eq0.false) in
    let named : c.as_str.result.now ≡ inner_name c.args.name.now c.in-Some.written.now = ◌∙◌ {c = inner_name c.args.name.now c.in-Some.written.now} c.as_str.ensures.value c.in_ok-inner.ensures in
    let same : f.faults c.args.files.now ≤ f.faults c.args.files.now = omega arith in
    rw (p.1, p.2) (cause_within c.in_err-put_file.field-0.0 told (λ held. file_events held (left - 1) inner) (λ held. included (below held left) name line) old old (f.steady c.args.files.now) (f.steady c.args.files.now) (f.faults c.args.files.now) (f.faults c.args.files.now) _ c.in_err-put_file.ensures.cause (λ s. s) same
    (λ fault puts. include_refused told name line old written inner left fault (sym c.in-Some.ensures) some named puts))

pub put_include-returns-clause-put : goal.put_include-returns-clause-put
put_include-returns-clause-put g t c =
    let f = g.F.Files in
    let told = f.holds c.args.files.now in
    let some : 0 < c.args.left = omega (arith, c.if-left-eq0.false) in
    let named : c.as_str.result.now ≡ inner_name c.args.name.now c.in-Some.written.now = ◌∙◌ {c = inner_name c.args.name.now c.in-Some.written.now} c.as_str.ensures.value c.in_ok-inner.ensures in
    on_ok_weaker c.put_bytes.result
    (λ gives. include_put told c.args.name.now c.args.line.now c.args.out.now.bytes.items c.put_file.new.out.bytes.items c.in-Some.written.now c.as_str.result.now c.args.left (Ok c.put_bytes.new.out.items) (sym c.in-Some.ensures) some named c.in_ok-put_file.ensures.put gives)
    c.put_bytes.ensures.put

pub put_include-returns-clause-begins : goal.put_include-returns-clause-begins
put_include-returns-clause-begins g t c =
    let f = g.F.Files in
    let told = f.holds c.args.files.now in
    let some : 0 < c.args.left = omega (arith, c.if-left-eq0.false) in
    let named : c.as_str.result.now ≡ inner_name c.args.name.now c.in-Some.written.now = ◌∙◌ {c = inner_name c.args.name.now c.in-Some.written.now} c.as_str.ensures.value c.in_ok-inner.ensures in
    up_to c.put_bytes.result told _ _ _ (include_begins told c.args.name.now c.args.line.now c.args.out.now.bytes.items c.put_file.new.out.bytes.items c.in-Some.written.now c.as_str.result.now c.args.left (f.begins c.args.files.now) (f.begins c.put_file.new.files) (sym c.in-Some.ensures) some named c.in_ok-put_file.ensures.put c.in_ok-put_file.ensures.begins)

pub put_include-returns-clause-parts : goal.put_include-returns-clause-parts
put_include-returns-clause-parts g t c =
    let told = g.F.Files.holds c.args.files.now in
    let left = c.args.left in
    let inner = c.as_str.result.now in
    let some : 0 < left = omega (arith, c.if-left-eq0.false) in
    let named : inner ≡ inner_name c.args.name.now c.in-Some.written.now = ◌∙◌ {c = inner_name c.args.name.now c.in-Some.written.now} c.as_str.ensures.value c.in_ok-inner.ensures in
    on_ok_weaker c.put_bytes.result
    (λ is. feed_put told (λ held. traced_file held (left - 1) inner) (λ held. traced_include (traced_below held left) c.args.name.now c.args.line.now) c.args.out.now c.put_file.new.out (record c.put_file.new.out { bytes = c.put_bytes.new.out }) c.in_ok-put_file.ensures.parts
    (λ held. include_traced held c.args.name.now c.args.line.now c.in-Some.written.now inner left (sym c.in-Some.ensures) some named) is refl)
    c.put_bytes.ensures.value

pub put_line-returns-then-includes-clause-parts : goal.put_line-returns-then-includes-clause-parts
put_line-returns-then-includes-clause-parts g t c = λ behind traced is_line its.
    let name = c.args.name.now in
    let line = c.args.line.now in
    let reading = c.args.reading in
    let more = c.put_include.new.out in
    let closed = c.in_ok-close_part.ensures.parts (line ++ behind) traced its in
    let put = c.in_ok-put_include.ensures.parts traced closed in
    let from : c.reading_at.result.start ≡ vec_len more.bytes = ap (λ (r : Reading). r.start) c.reading_at.ensures in
    let start : c.reading_at.result.start ≡ length more.bytes.items = omega (arith, from) in
    let number : c.reading_at.result.number ≡ c.reading_at.result.first = ap (λ (r : Reading). r.number) c.reading_at.ensures ∙ sym (ap (λ (r : Reading). r.first) c.reading_at.ensures) in (
      put.0,
      λ held e. put.1 held e ∙ sym (included_line held name line c.args.left reading (sym c.includes.ensures ∙ c.if-includes.true)),
      include_opens name behind (traced ++ put.0) more c.reading_at.result put.2 start number,
    )

pub put_line-returns-clause-parts : goal.put_line-returns-clause-parts
put_line-returns-clause-parts g t c = λ behind traced is_line its.
    let name = c.args.name.now in
    let line = c.args.line.now in
    let reading = c.args.reading in (
      in_line name reading.number line,
      λ held e. sym (plain_line held name line c.args.left reading (sym c.includes.ensures ∙ c.if-includes.false)),
      line_put name line behind traced c.args.out.now _ reading _ is_line its c.in_ok-put_bytes.ensures.value refl refl refl refl,
    )

pub put_file-returns-clause-parts : goal.put_file-returns-clause-parts
put_file-returns-clause-parts g t c =
    let none : length c.loop-rest.rest.now ≡ 0 = eqb-true (length c.loop-rest.rest.now) 0 (sym c.loop-rest-test.ensures) in
    file_put (g.F.Files.holds c.args.files.now) c.args.name.now c.loop-rest.rest.now c.args.left c.args.out.now
    c.loop-rest.out c.close_part.new.out c.loop-rest.reading none c.loop-rest.invariant.7 c.in_ok-close_part.ensures.parts

pub put_file-returns-in_err-content-clause-begins : goal.put_file-returns-in_err-content-clause-begins
put_file-returns-in_err-content-clause-begins g t c =
    let p = err_from_is_err_and c.from_residual.result c.from_residual.ensures.1 in
    let f = g.F.Files in
    rw (p.1, p.2) (unread_begins (Unit {0}) c.in_err-content.field-0.0 (f.holds c.args.files.now) c.args.name.now c.args.out.now.bytes.items c.args.left (f.steady c.args.files.now) (f.faults c.args.files.now) _ (f.begins c.args.files.now) _ c.in_err-content.ensures.cause c.in_err-content.ensures.begins_once)

pub put_file-returns-in_err-reading-clause-begins : goal.put_file-returns-in_err-reading-clause-begins
put_file-returns-in_err-reading-clause-begins g t c =
    let p = err_from_is_err_and c.from_residual-in_err-reading.result c.from_residual-in_err-reading.ensures.1 in
    let f = g.F.Files in
    let inv = c.loop-rest.invariant in
    let rest = c.loop-rest.rest.now in
    let some : 0 < length rest = omega (arith, false-eqb (length rest) 0 c.loop-rest-test.ensures) in
    let cut = line_cut rest c.split_at.result.0.now c.split_at.result.1.now c.line_len.result some c.line_len.ensures c.split_at.ensures.front c.split_at.ensures.back in
    rw (p.1, p.2) (line_begins Reading (Unit {0}) c.in_err-reading.field-0.0 (f.holds c.args.files.now) (f.holds c.loop-rest.files) c.args.name.now c.args.out.now.bytes.items rest c.split_at.result.0.now c.split_at.result.1.now c.loop-rest.out.bytes.items c.args.left c.loop-rest.reading.inside (f.steady c.loop-rest.files) (f.faults c.loop-rest.files) _ (f.begins c.args.files.now) (f.begins c.loop-rest.files) _ inv.3 inv.1 cut c.in_err-reading.ensures.cause c.in_err-reading.ensures.begins)

pub put_include-returns-in_err-put_file-clause-begins :
    goal.put_include-returns-in_err-put_file-clause-begins
put_include-returns-in_err-put_file-clause-begins g t c =
    let p = err_from_is_err_and c.from_residual-in_err-put_file.result c.from_residual-in_err-put_file.ensures.1 in
    let f = g.F.Files in
    let told = f.holds c.args.files.now in
    let name = c.args.name.now in
    let line = c.args.line.now in
    let left = c.args.left in
    let written = c.in-Some.written.now in
    let inner = c.as_str.result.now in
    let some : 0 < left = omega (arith, c.if-left-eq0.false) in
    let named : c.as_str.result.now ≡ inner_name c.args.name.now c.in-Some.written.now = ◌∙◌ {c = inner_name c.args.name.now c.in-Some.written.now} c.as_str.ensures.value c.in_ok-inner.ensures in
    rw (p.1, p.2) (front_begins (Unit {0}) (Unit {0}) c.in_err-put_file.field-0.0 told c.args.out.now.bytes.items (λ held. file_events held (left - 1) inner) (λ held. included (below held left) name line) (f.steady c.args.files.now) (f.faults c.args.files.now) _ (f.begins c.args.files.now) _ c.in_err-put_file.ensures.cause
    (λ held. (_, include_is held name line written inner left (sym c.in-Some.ensures) some named)) c.in_err-put_file.ensures.begins)
