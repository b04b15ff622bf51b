-- A worked program whose types are settled has its table for a binding.
use Rattle.std.proofs.Common.{◌≡◌, ℕ, Bool, true, Some}
use Rattle.std.specs.List.{list_all}
use Rattle.jr_tree.specs.Rows.{Rows}
use Rattle.jr_defs.specs.Referents.{Table}
use Rattle.jr_defs.specs.Declarations.{IsType}
use Rattle.jr_defs.specs.Headers.{IsSettled}
use Rattle.jr_defs.specs.Binding.{IsBinding}
use Rattle.jr_defs.specs.Formed.{IsFormed}
use Rattle.jr_plain.specs.Declarations.{types}
use Rattle.jr_plain.specs.Headed.{IsHeaded}
use Rattle.jr_plain.proofs.Searches.{every_of}
use Rattle.jr_plain.proofs.OfTypes.{types_list}
use Rattle.jr_headers.specs.Headers.{settled, is_settled_by, is_settled}
use Rattle.jr_headers.specs.Growing.{cycle_of}
use Rattle.jr_headers.proofs.Told.{cycle_of_is}
use Rattle.jr_headers.proofs.Pairs.{no_cycle_beside}
use Rattle.jr_headers.proofs.Cyclic.{cycles_have_first}
use Rattle.jr_headers.proofs.Settled.{settled_tells}
use Rattle.jr_worked.specs.Tables.{Worked, rows_of, table_of}
use Rattle.jr_worked.proofs.Checked.{is_right, typable_of, looked_up}

-- all types are settled under the table
abbrev pub are_settled : Rows → Table → Bool
are_settled p t = let set = settled p t t in list_all (λ c. is_settled_by p t t set c) (types p)

all_settled : (p : Rows) (t : Table) → IsHeaded p → are_settled p t ≡ true → (c : ℕ) → IsType p c → IsSettled p t t c
all_settled p t headed = (every_of (is_settled p t t) (IsSettled p t t) (settled_tells p t t headed) (types p) (types_list p)).0

pub bound_and_settled : (w : Worked) → is_right w ≡ true → are_settled (rows_of w) (table_of w) ≡ true → IsBinding (rows_of w) (table_of w)
bound_and_settled w passes all = record { settled = all_settled (rows_of w) (table_of w) (typable_of w passes).headed all; bound = looked_up w passes }

-- a program with a cycle of headers has no binding
pub no_binding : (p : Rows) (t : Table) (c : ℕ) → IsFormed p → cycle_of p ≡ Some c → IsBinding p t → ⊥
no_binding p t c formed e w = no_cycle_beside p formed t w ((cycles_have_first p headed).1 (c, cycle_of_is p formed c e))
  where
    headed : IsHeaded p
    headed = record { tree = formed.tree; header = formed.header }
