-- Where a reader stops, and why no tree begins so.
use Rattle.std.specs.Prelude.{◌≡◌, ℕ, ◌≤◌, List, [], ◌∷◌, ◌++◌, Err, ⊤}
use Rattle.jr_base.specs.declared.kind.Kind.{Kind}
use Rattle.jr_parse_laws.specs.declared.fault.Fault.{Fault}
use Rattle.jr_parse_laws.specs.declared.fault.Fault.TheVariants.{NoTree, TooDeep, OutOfMemory}
use Rattle.jr_parse_laws.specs.Parsers.{Parser, first}

-- two lists are alike up to where rest and other are left of them
pub record Alike (rest other ts us : List Kind) : Type 0 where
  pub front : List Kind
  pub one : ts ≡ front ++ rest
  pub two : us ≡ front ++ other

-- a tree is written that begins as ts does before rest
pub record Begun {A : Type 0} (P : A → Type 0) (write : A → List Kind → List Kind) (rest ts : List Kind) : Type 0 where
  pub tree : A
  pub is : P tree
  pub more : List Kind → List Kind
  pub alike : (z : List Kind) → Alike rest (more z) ts (write tree z)

-- the depths at which the fault is the same
abbrev pub Wider : Fault → ℕ → ℕ → Type 0
Wider NoTree room other = room ≤ other
Wider TooDeep room other = other ≡ room
Wider OutOfMemory room other = ⊥

-- a tree of more levels begins with the token at the fault too
abbrev pub BegunPast : {A : Type 0} → (ℕ → A → Type 0) → (A → List Kind → List Kind) → List Kind → List Kind → Type 0
BegunPast Is write [] ts = ⊥
BegunPast Is write (k ∷ rest) ts = (room : ℕ) × Begun (Is room) write rest ts

abbrev pub Deeper : {A : Type 0} → (ℕ → A → Type 0) → (A → List Kind → List Kind) → Fault → List Kind → List Kind → Type 0
Deeper Is write NoTree rest ts = ⊤
Deeper Is write TooDeep rest ts = BegunPast Is write rest ts
Deeper Is write OutOfMemory rest ts = ⊥

pub record Stuck {A : Type 0} (Is : ℕ → A → Type 0) (write : A → List Kind → List Kind) (read : ℕ → Parser A) (room : ℕ) (ts : List Kind) (f : Fault) (rest : List Kind) : Type 0 where
  -- what stands before the fault begins a tree
  pub viable : Begun (Is room) write rest ts
  pub deeper : Deeper Is write f rest ts
  -- the fault is the same whatever follows the token
  pub alone : (other : ℕ) (w : List Kind) → Wider f room other → first rest ≡ first w → (us : List Kind) × Alike rest w ts us × (read other us ≡ Err (f, w))
