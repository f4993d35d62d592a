-- A promise `numbered cs.new ≡ ..` leaves one list of records.
use Rattle.std.specs.Prelude.{◌≡◌, List}
use Rattle.picture_order.specs.Comps.{numbered}
use Rattle.picture_order.specs.declared.lent.Comp.{Comp}

abbrev pub OneList : Type 0
OneList = (cs ds : List Comp) → numbered cs ≡ numbered ds → cs ≡ ds
