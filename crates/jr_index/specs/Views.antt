-- What is built, as plain data.
use Rattle.jr_index.specs.declared.building.Building.{Building}
use Rattle.jr_index.specs.Building.{State}

abbrev pub state : Building → State
state b = record { rows = b.rows.items; over = b.over; before = b.before }
