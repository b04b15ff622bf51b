-- Whether each occurrence refers to one thing, and whether a program keeps all rules that are defined so far, as tests.
use Rattle.std.specs.Prelude.{Bool, not, ◌&&◌, ◌||◌, length}
use Rattle.jr_tree.specs.Rows.{Rows}
use Rattle.jr_defs.specs.declared.referent.Referent.{Referent}
use Rattle.jr_defs.specs.declared.referent.Referent.TheVariants.{Unbound, Ambiguous}
use Rattle.jr_defs.specs.Referents.{Table}
use Rattle.jr_plain.specs.Search.{all_below}
use Rattle.jr_plain.specs.Same.{same_referent}
use Rattle.jr_plain.specs.Declarations.{is_occurrence}
use Rattle.jr_headers.specs.Growing.{has_settled_headers}
use Rattle.jr_all_rules.specs.Computed.{keeps_all}
use Rattle.jr_bound.specs.Bound.{the_binding}

-- it is one thing
abbrev pub is_one_thing : Referent → Bool
is_one_thing a = not (same_referent a Unbound) && not (same_referent a Ambiguous)

-- each occurrence refers to one thing
abbrev pub all_found : Rows → Table → Bool
all_found p t = all_below (length p) (λ o. not (is_occurrence p o) || is_one_thing (t o))

-- the program has a binding, in it each occurrence refers to one thing, and it keeps all rules
abbrev pub keeps_rules : Rows → Bool
keeps_rules p = let rest = all_found p (the_binding p) && keeps_all p (the_binding p) in has_settled_headers p && rest
