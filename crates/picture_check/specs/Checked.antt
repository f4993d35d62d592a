-- What the checks of a picture answer: number 29, then 25 to 28, each with the lowest index at fault.
use Rattle.std.specs.Prelude.{ℕ, List}
use Rattle.box_number.specs.Table.{◌and◌, holds}
use Rattle.box_refusal.specs.Told.{Told, accepted, refused}
use Rattle.read_record.specs.declared.Jp2.{Jp2}
use Rattle.picture_rules.specs.Image.{Image}
use Rattle.picture_rules.specs.declared.Settings.{Settings}
use Rattle.picture_rules.specs.Channels.{mapped, channels, corrected}
use Rattle.picture_rules.specs.Finish.{counted, checks}
use Rattle.picture_check.specs.declared.Checked.{Checked}

-- where nothing is at fault, how many channels there are, and whether the mappings are to be corrected
unfoldable pub checked : List ℕ → Jp2 → Settings → Image → Told Checked
checked f m s i =
    let k = counted s m in
    checks refused f m s i (accepted (record { channels = channels k i.count; corrected = holds (mapped k and corrected f k.lists.cmap i.count) }))
