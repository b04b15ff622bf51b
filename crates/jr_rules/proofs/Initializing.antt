-- The test of fields that an initializer reads too early tells what it is to tell.
use Rattle.std.proofs.Common.{◌≡◌, refl, ap, ℕ, ◌+◌, ◌&&◌, length, Option, Decides}
use Rattle.std.proofs.lemmas.Bool.{false≢true}
use Rattle.std.proofs.lemmas.Bool.Decides.{Decides-eqb, Decides-ltb}
use Rattle.jr_base.specs.declared.kind.Symbol.{Symbol}
use Rattle.jr_base.specs.declared.kind.Symbol.TheVariants as y
use Rattle.jr_tree.specs.declared.label.Label.{Label}
use Rattle.jr_tree.specs.declared.label.Label.TheVariants as is
use Rattle.jr_tree.specs.declared.label.Role.TheVariants as role
use Rattle.jr_tree.specs.declared.label.Sought.{Sought}
use Rattle.jr_tree.specs.declared.label.Sought.TheVariants as sought
use Rattle.jr_tree.specs.Rows.{Rows, label, parent, end, role_at, sought_at}
use Rattle.jr_defs.specs.declared.referent.Referent.TheVariants.{Declared}
use Rattle.jr_defs.specs.Referents.{Table}
use Rattle.jr_defs.specs.Enclosing.{DeclaredIn, Innermost}
use Rattle.jr_plain.specs.Enclosing.{is_declared_in, innermost}
use Rattle.jr_plain.specs.Instances.{is_member_round}
use Rattle.jr_plain.specs.Typing.{is_assign}
use Rattle.jr_plain.proofs.Tests.{always, never, both, either, opposite, like}
use Rattle.jr_plain.proofs.Searches.{some}
use Rattle.jr_plain.proofs.Same.{role_tells}
use Rattle.jr_plain.proofs.Enclosed.{innermost_finds, declared_in_tells}
use Rattle.jr_plain.proofs.Modified.{found_tells, static_tells}
use Rattle.jr_plain.proofs.Instanced.{static_context_tells}
use Rattle.jr_rules.specs.Initializing.{IsSimple, IsInitializing, IsAssignedTo, AreAlike, IsEarly, IsUsedTooEarly}
use Rattle.jr_rules.specs.TypedTests.{declared_row}
use Rattle.jr_rules.specs.InitializingTests as plain
use Rattle.jr_rules.proofs.Kids.{declared_finds, Round, round_tells, member_row}

simple_tells : (s : Sought) → Decides (plain.is_simple s) (IsSimple s)
simple_tells (sought.Simple kind) = always
simple_tells _ = never

initializing_tells : (l : Label) → Decides (plain.is_initializing l) (IsInitializing l)
initializing_tells (is.Fields modifiers) = always
initializing_tells (is.Initializer is_static) = always
initializing_tells _ = never

assign_tells : (op : Symbol) → Decides (is_assign op) (op ≡ y.Assign)
assign_tells y.Assign = (λ h. refl, λ e. refl)
assign_tells _ = (λ h. absurd (false≢true h), λ e. absurd (cc))

pub plain_assignment_tells : (l : Label) → Decides (plain.is_plain_assignment l) (l ≡ is.Assign y.Assign)
plain_assignment_tells (is.Assign op) = like (assign_tells op) (λ e. ap is.Assign e) (λ e. cc)
plain_assignment_tells _ = (λ h. absurd (false≢true h), λ e. absurd (cc))

assigned_to_tells : (p : Rows) (o : ℕ) → Decides (plain.is_assigned_to p o) (IsAssignedTo p o)
assigned_to_tells p o = like (both (plain_assignment_tells (label p (parent p o))) (Decides-eqb o (parent p o + 1))) (λ h. record { assigns = h.0; left = h.1 }) (λ h. (h.assigns, h.left))

alike_tells : (p : Rows) (o d : ℕ) → Decides (plain.are_alike p o d) (AreAlike p o d)
alike_tells p o d = either (both (static_context_tells p o) (static_tells p d)) (both (opposite (static_context_tells p o)) (opposite (static_tells p d)))

in_initializer_tells : (p : Rows) (o c : ℕ) → Decides (plain.is_in_initializer p o c) ((m : ℕ) × (Round p o c m × IsInitializing (label p m)))
in_initializer_tells p o c = some (λ m. is_member_round p o c m && plain.is_initializing (label p m)) (λ m. Round p o c m × IsInitializing (label p m))
    (λ m. both (round_tells p o c m) (initializing_tells (label p m))) (length p) (λ m h. member_row p c m h.0.0.0)

early_tells : (p : Rows) (o d : ℕ) → Decides (plain.is_early p o d) (IsEarly p o d)
early_tells p o d = like
    (both (both (both (role_tells (role_at p d) role.Field) (Decides-ltb o (end p d))) (alike_tells p o d))
    (found_tells (λ c. Innermost p o c) (λ c. is_declared_in p c d && plain.is_in_initializer p o c) (λ c. DeclaredIn p c d × ((m : ℕ) × (Round p o c m × IsInitializing (label p m))))
    (λ c. both (declared_in_tells p c d) (in_initializer_tells p o c)) (innermost p o) (innermost_finds p o)))
    (λ h. record {
      field = h.0.0.0;
      unfinished = h.0.0.1;
      alike = h.0.1;
      class = h.1.0;
      declared = h.1.2.0;
      initializer = let k = h.1.2.1 in record {
        member = k.0;
        inside = record { innermost = h.1.1; inside = k.1.0.0.0; from = k.1.0.0.1; before = k.1.0.1 };
        initializing = k.1.1;
      };
    })
    (λ h. let k = h.initializer.inside in
    (((h.field, h.unfinished), h.alike), (h.class, k.innermost, (h.declared, (h.initializer.member, (((k.inside, k.from), k.before), h.initializer.initializing))))))

pub used_too_early_tells : (p : Rows) (t : Table) (o : ℕ) → Decides (plain.is_used_too_early p t o) (IsUsedTooEarly p t o)
used_too_early_tells p t o = like
    (both (both (simple_tells (sought_at p o)) (opposite (assigned_to_tells p o)))
    (found_tells (λ d. (level : Option ℕ) × (t o ≡ Declared d level)) (λ d. plain.is_early p o d) (λ d. IsEarly p o d) (early_tells p o) (declared_row (t o)) (declared_finds (t o))))
    (λ h. record { simple = h.0.0; read = h.0.1; field = h.1.0; level = h.1.1.0; refers = h.1.1.1; early = h.1.2 })
    (λ h. ((h.simple, h.read), (h.field, (h.level, h.refers), h.early)))
