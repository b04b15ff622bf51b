-- Tables of rows under keys, in which each row stands once, and what types declare (JLS 8.2, 8.4, 8.8).
use Rattle.std.specs.Prelude.{◌≡◌, ℕ, zero, suc, Bool, false, ◌&&◌, List, [], ◌∷◌, ◌++◌, length, Option, Some, None, is_some, option_map, nat_eq, slice_index_or, if◌then◌else◌}
use Rattle.jr_tree.specs.declared.label.Role.TheVariants as role
use Rattle.jr_tree.specs.Rows.{Rows, role_at}
use Rattle.jr_defs.specs.Referents.{Table}
use Rattle.jr_plain.specs.Same.{same_role}
use Rattle.jr_plain.specs.Enclosing.{is_declared_in, declaring_type, is_constructor_of, constructed_class}
use Rattle.jr_plain.specs.Types.{is_same_signature}
use Rattle.jr_places.specs.declared.chains.Entry.{Entry}
use Rattle.jr_places.specs.Names.{name_row}
use Rattle.jr_supers.specs.declared.signatures.Signatures.{Signatures}
use Rattle.jr_supers.specs.Signatures.{number_of}
use Rattle.jr_members.specs.declared.declared.MemberKind.{MemberKind}
use Rattle.jr_members.specs.declared.declared.Declared.{Declared}
use Rattle.jr_members.specs.declared.callables.Callables.{Callables}
use Rattle.jr_members.specs.Held.{role_of_kind}

-- the numbers below n that pass, as they fall
abbrev pub falling : ℕ → (ℕ → Bool) → List ℕ
falling zero test = []
falling (suc n) test = let more = falling n test in if test n then n ∷ more else more

abbrev pub entry_for : ℕ → ℕ → ℕ → Entry
entry_for c x d = record { first = c; second = x; row = d }

abbrev pub entry_list : Option Entry → List Entry
entry_list None = []
entry_list (Some e) = e ∷ []

-- what the first n rows add
abbrev pub entries_of : (ℕ → Option Entry) → ℕ → List Entry
entries_of f zero = []
entries_of f (suc n) = entries_of f n ++ entry_list (f n)

-- ---- members by kind

abbrev pub is_of : Rows → MemberKind → ℕ → Bool
is_of p kind d = same_role (role_at p d) (role_of_kind kind)

-- the type that declares the row, where it is of the kind
abbrev pub holder_of : Rows → MemberKind → ℕ → Option ℕ
holder_of p kind d = if is_of p kind d then declaring_type p d else None

abbrev pub own_entry : Rows → MemberKind → ℕ → Option Entry
own_entry p kind d = option_map (λ c. entry_for c (name_row p d) d) (holder_of p kind d)

abbrev pub type_entry : Rows → MemberKind → ℕ → Option Entry
type_entry p kind d = option_map (λ c. entry_for c 0 d) (holder_of p kind d)

abbrev pub name_entry : Rows → MemberKind → ℕ → Option Entry
name_entry p kind d = option_map (λ c. entry_for (name_row p d) 0 d) (holder_of p kind d)

-- what the first n rows declare of one kind
pub record IsDeclaredTo (p : Rows) (kind : MemberKind) (n : ℕ) (declared : Declared) : Type 0 where
  pub kind_is : declared.kind ≡ kind
  pub own : declared.own ≡ entries_of (own_entry p kind) n
  pub by_type : declared.by_type ≡ entries_of (type_entry p kind) n
  pub by_name : declared.by_name ≡ entries_of (name_entry p kind) n

abbrev pub AreDeclared : Rows → MemberKind → Declared → Type 0
AreDeclared p kind declared = IsDeclaredTo p kind (length p) declared

-- the row is a member of the kind that the type declares, and the first row with its name is x
abbrev pub is_declared_as : Rows → MemberKind → ℕ → ℕ → ℕ → Bool
is_declared_as p kind c x d = is_of p kind d && (is_declared_in p c d && nat_eq (name_row p d) x)

-- the row is a member of the kind that the type declares
abbrev pub is_declared_by : Rows → MemberKind → ℕ → ℕ → Bool
is_declared_by p kind c d = is_of p kind d && is_declared_in p c d

-- the row is a member of the kind that some type declares, and the first row with its name is x
abbrev pub is_named : Rows → MemberKind → ℕ → ℕ → Bool
is_named p kind x d = is_of p kind d && (is_some (declaring_type p d) && nat_eq (name_row p d) x)

-- ---- methods and constructors

abbrev pub entry_of : ℕ → Option ℕ → Option ℕ → Option Entry
entry_of d (Some c) (Some n) = Some (entry_for c n d)
entry_of d _ _ = None

abbrev pub signature_number : Signatures → ℕ → Option ℕ
signature_number s d = number_of (slice_index_or s.of_rows.items d None)

abbrev pub signed_entry : Rows → Signatures → ℕ → Option Entry
signed_entry p s d = if same_role (role_at p d) role.Method then entry_of d (declaring_type p d) (signature_number s d) else None

abbrev pub constructor_entry : Rows → ℕ → Option Entry
constructor_entry p d = option_map (λ c. entry_for c 0 d) (constructed_class p d)

-- methods by the types that declare them and the numbers of their signatures, and constructors by their classes
pub record AreCallables (p : Rows) (callables : Callables) : Type 0 where
  pub signed : callables.by_signature ≡ entries_of (signed_entry p callables.signatures) (length p)
  pub constructors : callables.constructors ≡ entries_of (constructor_entry p) (length p)

-- a method that the type declares with the signature of m
abbrev pub is_declared_like : Rows → Table → ℕ → ℕ → ℕ → Bool
is_declared_like p t c m d = same_role (role_at p d) role.Method && (is_declared_in p c d && is_same_signature p t d m)
