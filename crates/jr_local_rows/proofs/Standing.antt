-- In trees of labels: what declarations of locals and parameters stand below, that parameters stand before a block, and that something stands below a `try`.
use Rattle.std.proofs.Common.{◌≡◌, List, [], ◌∷◌}
use Rattle.std.specs.Prelude.{Bool, true, false, Option, Some, None, IfSome}
use Rattle.std.specs.List.{AllByRecursion}
use Rattle.jr_base.specs.declared.text.Text.{Text}
use Rattle.jr_tree.specs.declared.label.Label.{Label}
use Rattle.jr_tree.specs.declared.label.Label.TheVariants as is
use Rattle.jr_tree.specs.declared.label.Role.TheVariants as role
use Rattle.jr_tree.specs.declared.label.NameKind.{NameKind}
use Rattle.jr_tree.specs.declared.label.NamePlace.{NamePlace}
use Rattle.jr_tree.specs.declared.label.NamePlace.TheVariants as place
use Rattle.jr_tree.specs.declared.tree.Name.{Name}
use Rattle.jr_tree.specs.Labels.{role_of}
use Rattle.jr_tree.specs.Forest.{Forest, none, more, if_some, each}
use Rattle.jr_tree.specs.Exprs.{left_kind, dotted, name_labels}
use Rattle.jr_lookup.specs.Locals.{DeclaresLocals, HasParameters}

abbrev pub HasStatements : Label → Type 0
HasStatements is.Block = Unit {0}
HasStatements is.Group = Unit {0}
HasStatements _ = ⊥

abbrev pub IsFor : Label → Type 0
IsFor (is.For first condition) = Unit {0}
IsFor _ = ⊥

abbrev pub IsSwitch : Label → Type 0
IsSwitch is.Switch = Unit {0}
IsSwitch _ = ⊥

-- what a label asks of the one over it
abbrev pub Asks : Label → Label → Type 0
Asks (is.Local is_final dims) over = DeclaresLocals over
Asks is.Locals over = HasStatements over
Asks is.ForLocals over = IsFor over
Asks is.Group over = IsSwitch over
Asks (is.Parameter is_final dims) over = HasParameters over
Asks _ over = Unit {0}

-- no root is a parameter
abbrev pub NoParameter : Forest → Type 0
NoParameter none = Unit {0}
NoParameter (more l x kids rest) = (role_of l ≡ role.Parameter → ⊥) × NoParameter rest

abbrev pub Behind : Label → Forest → Type 0
Behind is.Block rest = NoParameter rest
Behind _ rest = Unit {0}

-- behind a root that is a block no root is a parameter
abbrev pub ParametersFirst : Forest → Type 0
ParametersFirst none = Unit {0}
ParametersFirst (more l x kids rest) = Behind l rest × ParametersFirst rest

abbrev pub IsTry : Label → Type 0
IsTry (is.Try has_finally) = Unit {0}
IsTry _ = ⊥

abbrev pub HasFirst : Forest → Type 0
HasFirst none = ⊥
HasFirst (more l x kids rest) = Unit {0}

abbrev pub Starts : Label → Forest → Type 0
Starts (is.Method modifiers is_void has_body) kids = ParametersFirst kids
Starts (is.Constructor modifiers) kids = ParametersFirst kids
Starts is.Catch kids = ParametersFirst kids
Starts (is.Try has_finally) kids = HasFirst kids
Starts _ kids = Unit {0}

-- each label of the forest, whose roots stand below the label over, stands and starts so
abbrev pub Placed : Label → Forest → Type 0
Placed over none = Unit {0}
Placed over (more l x kids rest) = Asks l over × Starts l kids × Placed l kids × Placed over rest

-- ---- options and lists

pub some_placed : {A : Type 0} (S : A → Type 0) (f : A → Forest → Forest) (over : Label) → ((a : A) (rest : Forest) → S a → Placed over rest → Placed over (f a rest))
    → (o : Option A) (rest : Forest) → IfSome o S → Placed over rest → Placed over (if_some f o rest)
some_placed S f over g None rest h r = r
some_placed S f over g (Some a) rest h r = g a rest h r

pub any_placed : {A : Type 0} (f : A → Forest → Forest) (over : Label) → ((a : A) (rest : Forest) → Placed over rest → Placed over (f a rest))
    → (o : Option A) (rest : Forest) → Placed over rest → Placed over (if_some f o rest)
any_placed f over g None rest r = r
any_placed f over g (Some a) rest r = g a rest r

pub each_placed : {A : Type 0} (S : A → Type 0) (f : A → Forest → Forest) (over : Label) → ((a : A) (rest : Forest) → S a → Placed over rest → Placed over (f a rest))
    → (all : List A) (rest : Forest) → AllByRecursion S all → Placed over rest → Placed over (each f all rest)
each_placed S f over g [] rest h r = r
each_placed S f over g (a ∷ all) rest h r = g a (each f all rest) h.0 (each_placed S f over g all rest h.1 r)

pub all_placed : {A : Type 0} (f : A → Forest → Forest) (over : Label) → ((a : A) (rest : Forest) → Placed over rest → Placed over (f a rest))
    → (all : List A) (rest : Forest) → Placed over rest → Placed over (each f all rest)
all_placed f over g [] rest r = r
all_placed f over g (a ∷ all) rest r = g a (each f all rest) (all_placed f over g all rest r)

-- ---- names

dotted_placed : (k : NameKind) (at : NamePlace) (parts : List Text) (b : Bool) (left rest : Forest) (over : Label) → ((l : Label) → Placed l left) → Placed over rest
    → Placed over (dotted k at parts b left rest)
dotted_placed k at [] b left rest over h r = r
dotted_placed k at (part ∷ []) b left rest over h r = (tt, tt, h (is.Name k at b), r)
dotted_placed k at (part ∷ (next ∷ parts)) b left rest over h r =
    dotted_placed k at (next ∷ parts) true (more (is.Name (left_kind k) place.Qualifier b) part left none) rest over (λ l. (tt, tt, h (is.Name (left_kind k) place.Qualifier b), tt)) r

pub name_placed : (k : NameKind) (at : NamePlace) (n : Name) (over : Label) (rest : Forest) → Placed over rest → Placed over (name_labels k at n rest)
name_placed k at n over rest r = dotted_placed k at n.parts false none rest over (λ l. tt) r

dotted_first : (k : NameKind) (at : NamePlace) (parts : List Text) (b : Bool) (left rest : Forest) → ParametersFirst rest → ParametersFirst (dotted k at parts b left rest)
dotted_first k at [] b left rest r = r
dotted_first k at (part ∷ []) b left rest r = (tt, r)
dotted_first k at (part ∷ (next ∷ parts)) b left rest r = dotted_first k at (next ∷ parts) true (more (is.Name (left_kind k) place.Qualifier b) part left none) rest r

pub names_first : (k : NameKind) (at : NamePlace) (all : List Name) (rest : Forest) → ParametersFirst rest → ParametersFirst (each (name_labels k at) all rest)
names_first k at [] rest r = r
names_first k at (n ∷ all) rest r = dotted_first k at n.parts false none (each (name_labels k at) all rest) (names_first k at all rest r)
