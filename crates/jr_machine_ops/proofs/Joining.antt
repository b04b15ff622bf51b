-- The work of one member more.
use Rattle.std.proofs.Common.{◌≡◌, append_assoc, List, ◌∷◌, ◌++◌, Bool}
use Rattle.jr_base.specs.declared.ids.DeclId.{DeclId}
use Rattle.jr_core.specs.Mirror as m
use Rattle.jr_core.specs.Mirror.{Core}
use Rattle.jr_machine_defs.specs.declared.work.Work.{Work}
use Rattle.jr_machine_defs.specs.Classes.{body_in}
use Rattle.jr_machine_defs.specs.Initialization.{body_work, members_work}
use Rattle.jr_machine_defs.specs.Control.{group_work, groups_work}

pub append_three : (a b c : List Work) → (a ++ b) ++ c ≡ a ++ (b ++ c)
append_three a b c = append_assoc a b c

pub members_more : (core : Core) (is_static : Bool) (d : DeclId) (all : List DeclId) (rest : List Work)
    → members_work core is_static (d ∷ all) ++ rest ≡ body_work is_static (body_in core d) ++ (members_work core is_static all ++ rest)
members_more core is_static d all rest = append_assoc (body_work is_static (body_in core d)) (members_work core is_static all) rest

pub groups_more : (g : m.Group) (all : m.Groups) (rest : List Work) → groups_work (m.more_groups g all) ++ rest ≡ group_work g ++ (groups_work all ++ rest)
groups_more g all rest = append_assoc (group_work g) (groups_work all) rest
