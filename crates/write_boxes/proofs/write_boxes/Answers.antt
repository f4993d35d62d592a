use native.Mathlib.Omega.{arith}
use Prim.Native.Nat.{◌+◌}
use mathlib.Core.Path.{◌≡◌, ap, sym, ◌∙◌}
use lib.ListN.{length}
use Rattle.std.proofs.Common.{rules}
use Rattle.std.proofs.lemmas.Result.{err_from_is_err_and}
use Rattle.write_rules.specs.Request.{asked}
use Rattle.write_rules.specs.Writing.{write}
use Rattle.write_boxes.specs.Private.Lengths.{length_of_front}
use Rattle.write_boxes.proofs.Answers.{declined-done, written-done, without_area, with_area, front_length, fields_33, fields_34, fields_30, fields-written}
use Rattle.write_boxes.proofs.Requests.{setup_refused, setup_ready}
use Rattle.write_boxes.proofs.write_boxes.Goals as goal
use Rattle.write_boxes.proofs.write_boxes.Goals.{then-r-gt-MOST_PROFILE-via-then-r-gt-MOST_PROFILE, then-r-gt-MOST_PROFILE-via-else-r-gt-MOST_PROFILE+then-r-gt-MOST_CODESTREAM}

pub returns-in_err-fields : goal.returns-in_err-fields
returns-in_err-fields c = let a = c.args in
    let p = err_from_is_err_and c.from_residual.result c.from_residual.ensures.1 in
    let done = declined-done (write (asked a.r.now (length a.d.now))) a.d.now (setup_refused a.r.now (length a.d.now) c.in_err-fields.ensures) in
    record { value = rw (p.1, p.2) done.value; d_after = done.d_after }

pub returns-then-not-opj_jp2_default_validation : goal.returns-then-not-opj_jp2_default_validation
returns-then-not-opj_jp2_default_validation c = let q = c.args.r.now in
    let s = c.in_ok-fields.fields in
    let room = length c.args.d.now in
    let is = (setup_ready q room c.in_ok-fields.ensures).0 in
    let flat = without_area s c.opj_jp2_default_validation.ensures c.if-not-opj_jp2_default_validation.true in
    let done = declined-done (write (asked q room)) c.args.d.now (is ∙ fields_33 q.comps.now s q.profile.now q.codestream room flat) in
    record { value = done.value; d_after = done.d_after }

pub returns-then-r-gt-MOST_PROFILE : goal.returns-then-r-gt-MOST_PROFILE
returns-then-r-gt-MOST_PROFILE c = let q = c.args.r.now in
    let s = c.in_ok-fields.fields in
    let room = length c.args.d.now in
    let is = (setup_ready q room c.in_ok-fields.ensures).0 in
    let area = with_area s c.opj_jp2_default_validation.ensures c.if-not-opj_jp2_default_validation.false in
    let done =
    declined-done (write (asked q room)) c.args.d.now
    (is ∙ fields_34 q.comps.now s q.profile.now q.codestream room area (λ short.
    elim c.then-r-gt-MOST_PROFILE.branch [ then-r-gt-MOST_PROFILE-via-then-r-gt-MOST_PROFILE w ↦ omega arith | then-r-gt-MOST_PROFILE-via-else-r-gt-MOST_PROFILE+then-r-gt-MOST_CODESTREAM w ↦ omega arith ]))
    in
    record { value = done.value; d_after = done.d_after }

pub invariant_of-boxes : goal.invariant_of-boxes
invariant_of-boxes c = let t = (setup_ready c.args.r.now 0 c.in_ok-fields.ensures).1 in record { few = t.few; well = t.well; defined = t.defined; short = omega arith; fits = omega arith }

pub returns-then-d-needed : goal.returns-then-d-needed
returns-then-d-needed c = let q = c.args.r.now in
    let s = c.in_ok-fields.fields in
    let room = length c.args.d.now in
    let is = (setup_ready q room c.in_ok-fields.ensures).0 in
    let area = with_area s c.opj_jp2_default_validation.ensures c.if-not-opj_jp2_default_validation.false in
    let e : c.from.result ≡ length_of_front s (length q.profile.now) = omega (arith, c.from.ensures, c.jp2h_length-needed.ensures.0) in
    let done = declined-done (write (asked q room)) c.args.d.now (is ∙ fields_30 q.comps.now s q.profile.now q.codestream room area (omega arith) (omega arith) e (omega (arith, c.from.ensures))) in
    record { value = done.value; d_after = done.d_after }

pub returns : goal.returns
returns c = let q = c.args.r.now in
    let s = c.in_ok-fields.fields in
    let room = length c.args.d.now in
    let is = (setup_ready q room c.in_ok-fields.ensures).0 in
    let area = with_area s c.opj_jp2_default_validation.ensures c.if-not-opj_jp2_default_validation.false in
    let e : 48 + c.jp2h_length-needed.result ≡ length_of_front s (length q.profile.now) = ap (λ n. 48 + n) c.jp2h_length-needed.ensures.0 in
    let front = c.write_front.ensures in
    let done =
    written-done (write (asked q room)) c.args.d.now
    (is ∙ fields-written q.comps.now s q.profile.now q.codestream room area (omega arith) (omega arith) (omega arith))
    (e ∙ sym (front_length q.comps.now s q.profile.now q.codestream)) front.bytes
    in
    let loan = front.loan in
    record { value = done.value; d_after = search (rules, done.d_after) }
