-- Definitions of colours, and the same definitions in another order.
use Rattle.std.specs.Prelude.{ℕ, suc, ◌+◌, ◌≤◌, ◌≡◌, Bool, ◌&&◌, List, [], ◌∷◌, eqb}
use Rattle.box_number.specs.Table.{Test, ◌≠?◌, ◌<?◌, ◌or◌, ◌and◌, pick}
use Rattle.read_channels.specs.Definitions.{Def}

-- an association with the whole image, and with nothing in particular
abbrev pub whole_image : ℕ
whole_image = 0

abbrev pub unassociated : ℕ
unassociated = 65535

-- a colour definition: typ 0, asoc 1 to 65534
abbrev pub Colour : Def → Type 0
Colour d = (d.typ ≡ 0) × (1 ≤ d.asoc) × (d.asoc ≤ 65534)

-- d names a channel, or a colour, that is not below n channels: the check refuses it (25), and the reorder alone passes it over
abbrev pub misnames : ℕ → Def → Test
misnames n d = n <? d.channel + 1 or (d.asoc ≠? whole_image and d.asoc ≠? unassociated and n <? d.asoc)

-- d and e are the same definition
unfoldable pub same : Def → Def → Bool
same d e = eqb d.channel e.channel && eqb d.typ e.typ && eqb d.asoc e.asoc

-- how often d occurs in a list
unfoldable pub times : Def → List Def → ℕ
times d [] = 0
times d (e ∷ es) = pick (same d e) (suc (times d es)) (times d es)

-- the same definitions, each as often
abbrev pub Reordered : List Def → List Def → Type 0
Reordered ds es = (d : Def) → times d ds ≡ times d es
