-- The fields of the boxes, each from what a function promises of it.
-- Assumes nothing.
use Rattle.std.proofs.Common.{◌≡◌, ℕ, ap, ◌∙◌}
use Rattle.write_rules.specs.Request.{Request}
use Rattle.write_rules.specs.Setup.{HEIGHT, WIDTH, BPC, METH, EnumCS, colours, N, fields_of}

module _ (r : Request) {h w bpc meth enumcs many definitions : ℕ} (high : h ≡ HEIGHT r) (wide : w ≡ WIDTH r) (b : bpc ≡ BPC r.components r.count)
    (m : meth ≡ METH r.profile) (e : enumcs ≡ EnumCS meth r.space) (n : many ≡ colours enumcs) (d : definitions ≡ N r.components r.count many) where
  -- three of them are made from the one before, so each is shown in turn
  enumcs_set : enumcs ≡ EnumCS (METH r.profile) r.space
  enumcs_set = e ∙ ap (λ (x : ℕ). EnumCS x r.space) m

  colours-set : many ≡ colours (EnumCS (METH r.profile) r.space)
  colours-set = n ∙ ap colours enumcs_set

  definitions-set : definitions ≡ N r.components r.count (colours (EnumCS (METH r.profile) r.space))
  definitions-set = d ∙ ap (N r.components r.count) colours-set

  pub ready : record { h = h; w = w; numcomps = r.count; bpc = bpc; meth = meth; enumcs = enumcs; colours = many; definitions = definitions } ≡ fields_of r
  ready = rw (high, wide, b, m, enumcs_set, colours-set, definitions-set)
