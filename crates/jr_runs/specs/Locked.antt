-- What the comparison says of each reference: it is bound to its lock.
use Rattle.std.specs.Prelude.{◌≡◌, ℕ, ◌<◌, false, List, length, Option}
use Rattle.jr_tree.specs.Rows.{Rows}
use Rattle.jr_defs.specs.declared.referent.Referent.{Referent}
use Rattle.jr_defs.specs.declared.referent.Referent.TheVariants.{Declared}
use Rattle.jr_defs.specs.Referents.{Table}
use Rattle.jr_shapes.specs.declared.spelling.Spelling.{Spelling}
use Rattle.jr_runs.specs.Marks.{marks, is_dropped}
use Rattle.jr_runs.specs.Plans.{Plan, plan_by}
use Rattle.jr_runs.specs.Respelled.{IsRespelled, copy}

-- the declaration that was referred to, where it stands now, through any level
abbrev pub IsMovedLock : (ℕ → ℕ) → Referent → Referent → Type 0
IsMovedLock f (Declared d level) found = (other : Option ℕ) × (found ≡ Declared (f d) other)
IsMovedLock f lock found = found ≡ lock

-- the row n stands in q, and refers there to its lock
pub record HasCopy (t : Table) (x : Plan) (q : Rows) (v : Table) (n : ℕ) : Type 0 where
  pub there : copy x n < length q
  pub bound : IsMovedLock (copy x) (t n) (v (copy x n))

-- the law: each row that is no qualifier of a reference that is spelled anew refers in a program that is respelled to its lock
abbrev pub LocksAreKept : Type 0
LocksAreKept = (p : Rows) (t : Table) (c : List Spelling) (q : Rows) (v : Table) → IsRespelled p t c q v → (n : ℕ) → n < length p → is_dropped (marks p t c) n ≡ false → HasCopy t (plan_by p t c (marks p t c)) q v n
