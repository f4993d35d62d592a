-- The named positions of a reading's numbers are theirs.
-- Assumes nothing.
use mathlib.Core.Path.{refl}
use Rattle.read_rules.specs.File.{Walked, codestream, ended, file_refused, after}
use Rattle.export_rules.specs.Numbers.{PlacesRight}

pub places-right : (w : Walked) → PlacesRight w
unfolding after
places-right (codestream offset k) = record { answer = refl; pclr = (refl, (refl, refl)); cmap = (refl, refl); cdef = (refl, refl); status = refl; long = refl }
places-right (ended k) = record { answer = refl; pclr = (refl, (refl, refl)); cmap = (refl, refl); cdef = (refl, refl); status = refl; long = refl }
places-right (file_refused number at) = record { answer = refl; pclr = (refl, (refl, refl)); cmap = (refl, refl); cdef = (refl, refl); status = refl; long = refl }
