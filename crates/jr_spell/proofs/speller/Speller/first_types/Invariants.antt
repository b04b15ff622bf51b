use Rattle.std.proofs.Common.{◌≡◌, true, length, option_map, Some}
use Rattle.jr_plain.specs.Types.{parameters}
use Rattle.jr_tree.specs.Rows.{role_at}
use Rattle.jr_supers.specs.Tabled.{is_callable}
use Rattle.jr_spell.specs.Calling.{AreFirst}
use Rattle.jr_spell.specs.Spellers.{rows_of, table_of, IsWholeSpeller}
use Rattle.jr_spell.proofs.speller.Speller.first_types.Given as goal

abbrev pub invariant-loop-nth : goal.invariant-loop-nth
invariant-loop-nth l = IsWholeSpeller l.self → is_callable (role_at (rows_of l.self) l.fn.target) ≡ true
    → option_map (λ all. length all) (parameters (rows_of l.self) (table_of l.self) l.fn.target) ≡ Some l.fn.count
    → AreFirst l.all.items l.nth (parameters (rows_of l.self) (table_of l.self) l.fn.target)
