-- Document 01, "Writing": the input for the boxes before a codestream.
use Rattle.std.specs.Prelude.{ℕ, ◌+◌, ◌*◌, List, get_or}
use Rattle.write_rules.specs.declared.Request as lent
use Rattle.read_record.specs.Component.{prec, sgnd, alpha, numbers_each}

-- count components of 13 numbers each, in one list; the corners of the picture's area; the crate's number of a colour space; an ICC profile, empty for none; the codestream's length
-- without its box's header; the length of the destination
pub record Request : Type 0 where
  pub components : List ℕ
  pub count : ℕ
  pub x0 : ℕ
  pub y0 : ℕ
  pub x1 : ℕ
  pub y1 : ℕ
  pub space : ℕ
  pub profile : List ℕ
  pub codestream : ℕ
  pub room : ℕ

abbrev pub request : List ℕ → ℕ → ℕ → ℕ → ℕ → ℕ → ℕ → List ℕ → ℕ → ℕ → Request
request comps count x0 y0 x1 y1 space profile codestream room =
    record { components = comps; count = count; x0 = x0; y0 = y0; x1 = x1; y1 = y1; space = space; profile = profile; codestream = codestream; room = room }

-- what the code is asked, with the length of the destination
abbrev pub asked : lent.Request → ℕ → Request
asked q room = request q.comps.now q.count q.area.x0 q.area.y0 q.area.x1 q.area.y1 q.space q.profile.now q.codestream room

-- number k of component c, in the order of the crate's opj_image_comp
abbrev pub component_number : List ℕ → ℕ → ℕ → ℕ
component_number comps c k = get_or comps (numbers_each * c + k) 0

-- the bits of a sample
abbrev pub precision : List ℕ → ℕ → ℕ
precision comps c = component_number comps c prec

-- 1 where samples have a sign
abbrev pub sign_of : List ℕ → ℕ → ℕ
sign_of comps c = component_number comps c sgnd

-- not 0 for an opacity channel
abbrev pub alpha_of : List ℕ → ℕ → ℕ
alpha_of comps c = component_number comps c alpha
