-- Supertypes and members under one table are those under another, where both agree at the names of types.
use Rattle.std.proofs.Common.{sym, ◌∙◌, subst, inl, inr, ⊎_elim, ℕ, ◌+◌, List, [], ◌∷◌, Option, Some, None, slice_index_or}
use Rattle.jr_tree.specs.Rows.{Rows}
use Rattle.jr_defs.specs.declared.referent.RowType.{RowType}
use Rattle.jr_defs.specs.Referents.{Table}
use Rattle.jr_defs.specs.Formed.{IsFormed}
use Rattle.jr_defs.specs.Types.{Parameters, SameSignature}
use Rattle.jr_defs.specs.Supertypes.{SuperAt, Super, Superclass, Above}
use Rattle.jr_defs.specs.Members.{Replaces, IsLeft}
use Rattle.jr_defs.proofs.Itself.{types_same}
use Rattle.jr_defs.proofs.TypesAgree.{SameTypes, turned_types, sees_same}
use Rattle.jr_plain.specs.Search.{Reaches}
use Rattle.jr_with.specs.Same.{SameNames, SameFirstNames, SameTypeNames}
use Rattle.jr_with.proofs.Typed.{written_first}
use Rattle.jr_with.proofs.Worlds.{parameters_same}
use Rattle.jr_places.specs.declared.chains.Entry.{Entry}
use Rattle.jr_places.specs.declared.places.Places.{Places}
use Rattle.jr_supers.specs.declared.above.Link.{Link}
use Rattle.jr_supers.specs.declared.signatures.Signature.{Signature}
use Rattle.jr_supers.specs.declared.signatures.Signatures.{Signatures}
use Rattle.jr_supers.specs.declared.subtypes.Supers.{Supers}
use Rattle.jr_supers.specs.Above.{Tables, IsLinked, AreAllAbove}
use Rattle.jr_supers.specs.Direct.{HasSupers, FallsFrom}
use Rattle.jr_supers.specs.Signatures.{IsSignatureOf, AreSignatures}
use Rattle.jr_supers.specs.Supers.{HasNoCycle, AreSupersOf}
use Rattle.jr_members.specs.declared.declared.MemberKind.{MemberKind}
use Rattle.jr_members.specs.declared.members.Members.{Members}
use Rattle.jr_members.specs.declared.named.Named.{Named}
use Rattle.jr_members.specs.Held.{Holds, IsHeldAs}
use Rattle.jr_members.specs.Sources.{AreSeen, AreNamed}
use Rattle.jr_members.proofs.Nearing.{near_over}
use Rattle.jr_members.specs.Worlds.{AreMembersOf}

module _ (p : Rows) (formed : IsFormed p) (t u : Table) (types : SameTypes p t u) where
  pub names_same : SameNames p t u
  names_same c n h = types.at n (formed.header_name c n h)

  pub firsts_same : SameFirstNames p t u
  firsts_same n first e = types.at (n + 1) (formed.first_name n first)

  pub written_same : SameTypeNames p t u
  written_same = written_first p t u firsts_same

  -- ---- supertypes

  super_at_over : (c n s : ℕ) → SuperAt p t c n s → SuperAt p u c n s
  super_at_over c n s (SuperAt.class k e) = SuperAt.class k (sym (names_same c n (inl k)) ∙ e)
  super_at_over c n s (SuperAt.implied k e) = SuperAt.implied k e
  super_at_over c n s (SuperAt.interface k e) = SuperAt.interface k (sym (names_same c n (inr k)) ∙ e)

  super_over : (c s : ℕ) → Super p t c s → Super p u c s
  super_over c s h = record { place = h.place; at = super_at_over c h.place s h.at }

  superclass_over : (c s : ℕ) → Superclass p t c s → Superclass p u c s
  superclass_over c s (Superclass.named {n = n} k e) = Superclass.named k (sym (names_same c n (inl k)) ∙ e)
  superclass_over c s (Superclass.implied k e) = Superclass.implied k e

  above_over : (c s : ℕ) → Above p t c s → Above p u c s
  above_over c s (Above.direct e) = Above.direct (super_over c s e)
  above_over c s (Above.further {r = r} e more) = Above.further (super_over c r e) (above_over r s more)
  above_over c s (Above.object i o) = Above.object i o

  reaches_over : (c s : ℕ) → Reaches (Super p t) c s → Reaches (Super p u) c s
  reaches_over c s (Reaches.direct e) = Reaches.direct (super_over c s e)
  reaches_over c s (Reaches.further {r = r} e more) = Reaches.further (super_over c r e) (reaches_over r s more)

  pub acyclic_back : HasNoCycle p u → HasNoCycle p t
  acyclic_back none c above = none c (above_over c c above)

  -- ---- signatures

  signature_over : (m k : ℕ) → SameSignature p t m k → SameSignature p u m k
  signature_over m k h = record {
    named = h.named;
    types = h.types;
    first = subst (Parameters p u m) (types_same h.types) ((sees_same p t u formed types).parameters m h.types h.first);
    second = subst (Parameters p u k) (types_same h.types) ((sees_same p t u formed types).parameters k h.types h.second);
  }

  replaces_over : (e d : ℕ) → Replaces p t e d → Replaces p u e d
  replaces_over e d (Replaces.field h) = Replaces.field h
  replaces_over e d (Replaces.type h) = Replaces.type h
  replaces_over e d (Replaces.method h) = Replaces.method (record { first = h.first; second = h.second; signature = signature_over e d h.signature })

  signature_of_over : (numbers : ℕ → ℕ → Option ℕ) (all : List RowType) (n : ℕ) (s : Option Signature) → IsSignatureOf p t numbers all n s → IsSignatureOf p u numbers all n s
  signature_of_over numbers all n None h = λ callable. sym (parameters_same p t u written_same n) ∙ h callable
  signature_of_over numbers all n (Some s) h = (h.0, sym (parameters_same p t u written_same n) ∙ h.1, h.2, h.3)

  signatures_over : (signatures : Signatures) → AreSignatures p t signatures → AreSignatures p u signatures
  signatures_over signatures h = record { numbers = h.numbers; one = h.one; each = λ n. signature_of_over h.numbers signatures.types.items n (slice_index_or signatures.of_rows.items n None) (h.each n) }

-- ---- in both directions

module _ (p : Rows) (formed : IsFormed p) (t u : Table) (types : SameTypes p t u) where
  back : SameTypes p u t
  back = turned_types p t u types

  falls_over : (c n : ℕ) (all : List ℕ) → FallsFrom p t c n all → FallsFrom p u c n all
  falls_over c n [] h = λ m s lt at. h m s lt (super_at_over p formed u t back c m s at)
  falls_over c n (s ∷ more) h = (h.0, h.1, super_at_over p formed t u types c h.0 s h.2, λ k r lt below at. h.3 k r lt below (super_at_over p formed u t back c k r at), falls_over c h.0 more h.4)

  pub direct_over : (supers : List Entry) → HasSupers p t supers → HasSupers p u supers
  direct_over supers h = record {
    each = λ c s. (λ e. super_over p formed t u types c s ((h.each c s).0 e), λ k. (h.each c s).1 (super_over p formed u t back c s k));
    falls = λ c. falls_over c _ _ (h.falls c);
  }

  linked_over : (tables : Tables) (c : ℕ) (l : Link) → IsLinked p t tables c l → IsLinked p u tables c l
  linked_over tables c l h = record {
    first = λ x e. (super_over p formed t u types c x (h.first x e).0, (h.first x e).1);
    top = h.top;
    jumps = h.jumps;
    supers = λ s e. h.supers s (super_over p formed u t back c s e);
    branches = h.branches;
    object = λ o is. (λ e. above_over p formed t u types c o ((h.object o is).0 e), λ a. (h.object o is).1 (above_over p formed u t back c o a));
  }

  all_above_over : (tables : Tables) → AreAllAbove p t tables → AreAllAbove p u tables
  all_above_over tables h = record {
    above = record {
      each = λ c l e. linked_over tables c l (h.above.each c l e);
      sound = λ c s e. reaches_over p formed t u types c s (h.above.sound c s e);
      closed = λ c r s e k. h.above.closed c r s e (super_over p formed u t back r s k);
      known = h.above.known;
    };
    all = h.all;
  }

  supers_over : (supers : Supers) → AreSupersOf p t supers → AreSupersOf p u supers
  supers_over supers h = record {
    well = h.well;
    direct = direct_over supers.direct.supers h.direct;
    object = h.object;
    superclasses = λ c s. (λ e. superclass_over p formed t u types c s ((h.superclasses c s).0 e), λ k. (h.superclasses c s).1 (superclass_over p formed u t back c s k));
    order = h.order;
    above = all_above_over _ h.above;
  }

  pub seen_over : (places : Places) (supers : Supers) → AreSeen p t places supers → AreSeen p u places supers
  seen_over places supers h = record { placed = h.placed; above = supers_over supers h.above }

  -- ---- members

  left_over : (c d : ℕ) → IsLeft p t c d → IsLeft p u c d
  left_over c d h e declared replaces = h e declared (replaces_over p formed u t back e d replaces)

  holds_over : (c d : ℕ) → Holds p t c d → Holds p u c d
  holds_over c d (Holds.declared h) = Holds.declared h
  holds_over c d (Holds.inherited {s = s} e h passes inherits left) = Holds.inherited (super_over p formed t u types c s e) (holds_over s d h) passes inherits (left_over c d left)

  held_over : (kind : MemberKind) (c x d : ℕ) → IsHeldAs p t kind c x d → IsHeldAs p u kind c x d
  held_over kind c x d h = record { of = h.of; held = holds_over c d h.held }

module _ (p : Rows) (formed : IsFormed p) (t u : Table) (types : SameTypes p t u) where
  named_over : (supers : Supers) (kind : MemberKind) (named : Named) → AreNamed p t supers kind named → AreNamed p u supers kind named
  named_over supers kind named h = record {
    declared_is = h.declared_is;
    all = record {
      sound = λ c x d e. held_over p formed t u types kind c x d (h.all.sound c x d e);
      whole = λ c x e d k. h.all.whole c x e d (held_over p formed u t (turned_types p t u types) kind c x d k);
      once = h.all.once;
    };
    near = near_over p t u kind named.lists named.nearest (λ c x d k. held_over p formed t u types kind c x d k) (λ c x d k. held_over p formed u t (turned_types p t u types) kind c x d k) h.near;
    done = λ c. record {
      own = (h.done c).own;
      held = λ x d k. ⊎_elim (λ e. inl e) (λ q. inr (q.0, q.1, held_over p formed t u types kind q.0 x d q.2, q.3, q.4))
          ((h.done c).held x d (held_over p formed u t (turned_types p t u types) kind c x d k));
    };
  }

  pub members_over : (supers : Supers) (members : Members) → AreMembersOf p t supers members → AreMembersOf p u supers members
  members_over supers members h = record {
    kinds_are = record {
      fields = named_over supers _ _ h.kinds_are.fields;
      types = named_over supers _ _ h.kinds_are.types;
      methods = named_over supers _ _ h.kinds_are.methods;
    };
    callables_are = h.callables_are;
    signatures_are = signatures_over p formed t u types _ h.signatures_are;
  }
