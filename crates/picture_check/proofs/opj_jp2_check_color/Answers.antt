use Rattle.std.proofs.Common.{false, ap, ◌∙◌, arith}
use Rattle.box_number.specs.Table.{◌and◌, holds}
use Rattle.picture_rules.specs.Image.{Image}
use Rattle.picture_rules.specs.Channels.{mapped, channels, corrected}
use Rattle.picture_rules.specs.Check.{mismapped}
use Rattle.box_number.specs.Lowest.{found}
use Rattle.picture_check.proofs.Checking.{passes, definitions-inside, mappings-inside, all_named, answer_29, answer-ignored, fits_25, answer_25, answer_26, fits_27, answer_27, fits_28, answer_28, answer-passed}
use Rattle.picture_check.proofs.opj_jp2_check_color.Goals as goal

pub returns-then-outside : goal.returns-then-outside
returns-then-outside c = let a = c.args in answer_29 a.f.now a.m a.s a.lent.now c.outside.ensures c.if-outside.true

pub returns-then-s-ne0 : goal.returns-then-s-ne0
returns-then-s-ne0 c = let a = c.args in ap (λ (i : Image). passes i.count false) c.lent.view_is ∙ answer-ignored a.f.now a.m a.s a.lent.now c.outside.ensures c.if-outside.false c.if-s-ne0.true

pub first_misnamed-requires : goal.first_misnamed-requires
first_misnamed-requires c = let a = c.args in definitions-inside a.f.now a.m a.s a.lent.now c.outside.ensures c.if-outside.false

pub overflow_cast-result : goal.overflow_cast-result
overflow_cast-result c = let a = c.args in omega (arith, fits_25 a.f.now a.m a.s a.lent.now c.outside.ensures c.if-outside.false c.if-s-ne0.false (c.channel_count-n.ensures ∙ ap (λ (i : Image). channels a.m i.count) c.lent.view_is) c.first_misnamed.ensures c.in-Some.is)

pub returns-in-Some : goal.returns-in-Some
returns-in-Some c = let a = c.args in answer_25 a.f.now a.m a.s a.lent.now c.outside.ensures c.if-outside.false c.if-s-ne0.false (c.channel_count-n.ensures ∙ ap (λ (i : Image). channels a.m i.count) c.lent.view_is) c.first_misnamed.ensures c.in-Some.is

pub first_undefined-requires : goal.first_undefined-requires
first_undefined-requires c = let a = c.args in all_named a.f.now a.m a.s a.lent.now c.outside.ensures c.if-outside.false c.if-s-ne0.false (c.channel_count-n.ensures ∙ ap (λ (i : Image). channels a.m i.count) c.lent.view_is) c.first_misnamed.ensures c.in_default.not-Some

pub returns-in-Some-first_undefined : goal.returns-in-Some-first_undefined
returns-in-Some-first_undefined c = let a = c.args in answer_26 a.f.now a.m a.s a.lent.now c.outside.ensures c.if-outside.false c.if-s-ne0.false (c.channel_count-n.ensures ∙ ap (λ (i : Image). channels a.m i.count) c.lent.view_is) c.first_misnamed.ensures c.in_default.not-Some c.first_undefined.ensures c.in-Some-first_undefined.is

pub first_mismapped-requires : goal.first_mismapped-requires
first_mismapped-requires c = let a = c.args in mappings-inside a.f.now a.m a.s a.lent.now c.outside.ensures c.if-outside.false

pub overflow_cast-result-in-Some-first_mismapped : goal.overflow_cast-result-in-Some-first_mismapped
overflow_cast-result-in-Some-first_mismapped c = let a = c.args in omega (arith, fits_27 a.f.now a.m a.s a.lent.now c.outside.ensures c.if-outside.false c.if-s-ne0.false (c.channel_count-n.ensures ∙ ap (λ (i : Image). channels a.m i.count) c.lent.view_is) c.first_misnamed.ensures c.in_default.not-Some c.first_undefined.ensures c.in_default-first_undefined.not-Some (c.first_mismapped.ensures ∙ ap (λ (i : Image). found (mismapped a.f.now a.m.lists.cmap i.count) a.m.lists.cmap.count) c.lent.view_is) c.in-Some-first_mismapped.is)

pub returns-in-Some-first_mismapped : goal.returns-in-Some-first_mismapped
returns-in-Some-first_mismapped c = let a = c.args in answer_27 a.f.now a.m a.s a.lent.now c.outside.ensures c.if-outside.false c.if-s-ne0.false (c.channel_count-n.ensures ∙ ap (λ (i : Image). channels a.m i.count) c.lent.view_is) c.first_misnamed.ensures c.in_default.not-Some c.first_undefined.ensures c.in_default-first_undefined.not-Some (c.first_mismapped.ensures ∙ ap (λ (i : Image). found (mismapped a.f.now a.m.lists.cmap i.count) a.m.lists.cmap.count) c.lent.view_is) c.in-Some-first_mismapped.is

pub first_dataless-requires : goal.first_dataless-requires
first_dataless-requires c = let a = c.args in mappings-inside a.f.now a.m a.s a.lent.now c.outside.ensures c.if-outside.false

pub overflow_cast-result-in-Some-first_dataless : goal.overflow_cast-result-in-Some-first_dataless
overflow_cast-result-in-Some-first_dataless c = let a = c.args in omega (arith, fits_28 a.f.now a.m a.s a.lent.now c.outside.ensures c.if-outside.false c.if-s-ne0.false (c.channel_count-n.ensures ∙ ap (λ (i : Image). channels a.m i.count) c.lent.view_is) c.first_misnamed.ensures c.in_default.not-Some c.first_undefined.ensures c.in_default-first_undefined.not-Some (c.first_mismapped.ensures ∙ ap (λ (i : Image). found (mismapped a.f.now a.m.lists.cmap i.count) a.m.lists.cmap.count) c.lent.view_is) c.in_default-first_mismapped.not-Some c.first_dataless.ensures c.in-Some-first_dataless.is)

pub returns-in-Some-first_dataless : goal.returns-in-Some-first_dataless
returns-in-Some-first_dataless c = let a = c.args in answer_28 a.f.now a.m a.s a.lent.now c.outside.ensures c.if-outside.false c.if-s-ne0.false (c.channel_count-n.ensures ∙ ap (λ (i : Image). channels a.m i.count) c.lent.view_is) c.first_misnamed.ensures c.in_default.not-Some c.first_undefined.ensures c.in_default-first_undefined.not-Some (c.first_mismapped.ensures ∙ ap (λ (i : Image). found (mismapped a.f.now a.m.lists.cmap i.count) a.m.lists.cmap.count) c.lent.view_is) c.in_default-first_mismapped.not-Some c.first_dataless.ensures c.in-Some-first_dataless.is

pub is_corrected-requires : goal.is_corrected-requires
is_corrected-requires c = let a = c.args in mappings-inside a.f.now a.m a.s a.lent.now c.outside.ensures c.if-outside.false

pub returns : goal.returns
returns c = let a = c.args in answer-passed a.f.now a.m a.s a.lent.now c.outside.ensures c.if-outside.false c.if-s-ne0.false (c.channel_count-n.ensures ∙ ap (λ (i : Image). channels a.m i.count) c.lent.view_is) c.first_misnamed.ensures c.in_default.not-Some c.first_undefined.ensures c.in_default-first_undefined.not-Some (c.first_mismapped.ensures ∙ ap (λ (i : Image). found (mismapped a.f.now a.m.lists.cmap i.count) a.m.lists.cmap.count) c.lent.view_is) c.in_default-first_mismapped.not-Some c.first_dataless.ensures c.in_default-first_dataless.not-Some (c.is_corrected.ensures ∙ ap (λ (i : Image). holds (mapped a.m and corrected a.f.now a.m.lists.cmap i.count)) c.lent.view_is)
