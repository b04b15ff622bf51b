-- The way up to the nearest list, over the supertypes that a program has.
use Rattle.std.proofs.Common.{◌≡◌, refl, sym, ◌∙◌, ap, subst, arith, ℕ, suc, ◌+◌, ◌≤◌, true, false, ◌&&◌, List, [], length, Option, Some, None, is_some, nat_eq, Decides}
use Rattle.std.proofs.lemmas.Bool.{false≢true, and_from}
use Rattle.std.proofs.lemmas.Bool.Decides.{Decides-eqb}
use Rattle.jr_tree.specs.Rows.{Rows, name, role_at}
use Rattle.jr_defs.specs.Referents.{Table}
use Rattle.jr_plain.specs.Search.{has, any_below, Lists}
use Rattle.jr_plain.specs.Enclosing.{declaring_type}
use Rattle.jr_plain.proofs.Tests.{itself}
use Rattle.jr_plain.proofs.Searches.{any}
use Rattle.jr_plain.proofs.Same.{role_tells}
use Rattle.jr_plain.proofs.Bounds.{member_below}
use Rattle.jr_plain.proofs.Enclosed.{declaring_finds}
use Rattle.jr_places.specs.declared.chains.Entry.{Entry}
use Rattle.jr_places.specs.Chains.{last_under}
use Rattle.jr_places.specs.declared.places.Places.{Places}
use Rattle.jr_places.specs.Names.{name_row}
use Rattle.jr_places.proofs.Packing.{name_tells}
use Rattle.jr_supers.specs.declared.subtypes.Supers.{Supers}
use Rattle.jr_supers.specs.Above.{link_at, depth_of, up_at, tables}
use Rattle.jr_members.specs.declared.declared.MemberKind.{MemberKind}
use Rattle.jr_members.specs.declared.declared.Declared.{Declared}
use Rattle.jr_members.specs.declared.named.Way.{Way}
use Rattle.jr_members.specs.Keys.{is_of, is_named}
use Rattle.jr_members.specs.Held.{role_of_kind, IsHeldAs}
use Rattle.jr_members.specs.Named.{under, has_list, way_from, next_way, carries, IsClimbing, IsNearest}
use Rattle.jr_members.specs.Each.{ListsEach}
use Rattle.jr_members.specs.Sources.{AreSeen, links_of, CanClimb}
use Rattle.jr_members.proofs.Climbing.{climb_start, climb_on, near_list, near_top, never_past}
use Rattle.jr_members.proofs.Heritage.{held_declared}

name_same : (p : Rows) (e d : ℕ) → name p e ≡ name p d → name_row p e ≡ name_row p d
name_same p e d h = (Decides-eqb (name_row p e) (name_row p d)).0 ((name_tells p e d).1 h)

module _ (p : Rows) (t : Table) (places : Places) (supers : Supers) (seen : AreSeen p t places supers) (kind : MemberKind) (lists : List Entry) (c x : ℕ) (can : CanClimb p t supers kind lists c) where
  pub ways_start : (way : Way) → way ≡ way_from c → IsClimbing p t (links_of supers) kind c x 0 way
  ways_start way e = subst (λ w. IsClimbing p t (links_of supers) kind c x 0 w) (sym e) (climb_start p seen.placed.local t (tables supers.above) seen.above.above.above kind (name_same p) lists c x)

  pub ways_listed : (turn : ℕ) (way : Way) → IsClimbing p t (links_of supers) kind c x turn way → has_list lists way.here x ≡ true → IsNearest p t kind lists c x way
  ways_listed turn way h some = near_list p seen.placed.local t (tables supers.above) seen.above.above.above kind (name_same p) lists c x turn way can.all h some

  pub ways_on : (turn : ℕ) (way next : Way) (up : ℕ) → IsClimbing p t (links_of supers) kind c x turn way → has_list lists way.here x ≡ false → up_at (links_of supers) way.here ≡ Some up → next ≡ next_way p way up
      → IsClimbing p t (links_of supers) kind c x (turn + 1) next
  ways_on turn way next up h none is e = subst (λ w. IsClimbing p t (links_of supers) kind c x (turn + 1) w) (sym e)
      (climb_on p seen.placed.local t (tables supers.above) seen.above.above.above kind (name_same p) lists c x turn way up h (can.done way.here h.on) none is)

  pub ways_top : (turn : ℕ) (way : Way) → IsClimbing p t (links_of supers) kind c x turn way → up_at (links_of supers) way.here ≡ None → IsNearest p t kind lists c x way
  ways_top turn way h top = near_top p seen.placed.local t (tables supers.above) seen.above.above.above kind (name_same p) lists c x turn way can.all h (can.done way.here h.on) top

  pub ways_past : (turn : ℕ) (way : Way) → IsClimbing p t (links_of supers) kind c x turn way → suc (depth_of (link_at (links_of supers) c)) ≤ turn → IsNearest p t kind lists c x way
  ways_past turn way h le = absurd (never_past p seen.placed.local t (tables supers.above) seen.above.above.above kind (name_same p) lists c x turn way h le)

-- a member that a type has is declared, so some row has its name
named_below : (p : Rows) (t : Table) (kind : MemberKind) (c x d : ℕ) → IsHeldAs p t kind c x d → any_below (length p) (is_named p kind x) ≡ true
named_below p t kind c x d h = let k = held_declared p t c d h.held in
    (any (is_named p kind x) (λ n. is_named p kind x n ≡ true) (λ n. itself (is_named p kind x n)) (length p)).1 (
      d,
      member_below p d k.2.member,
      and_from (is_of p kind d) (is_some (declaring_type p d) && nat_eq (name_row p d) x) ((role_tells (role_at p d) (role_of_kind kind)).1 h.of.role_is)
          (and_from (is_some (declaring_type p d)) (nat_eq (name_row p d) x) (ap is_some ((declaring_finds p d k.0).1 k.2)) ((Decides-eqb (name_row p d) x).1 h.of.named)),
    )

-- no member has the name
pub none_held : (p : Rows) (t : Table) (kind : MemberKind) (c x : ℕ) (all : List ℕ) → all ≡ [] → any_below (length p) (is_named p kind x) ≡ false → ListsEach all (IsHeldAs p t kind c x)
none_held p t kind c x all is none = subst (λ xs. ListsEach xs (IsHeldAs p t kind c x)) (sym is)
    (record { once = tt; lists = λ d. (λ h. absurd (false≢true h), λ h. absurd (false≢true (sym none ∙ named_below p t kind c x d h))) })

-- what is searched for is not there
pub none_at : (p : Rows) (t : Table) (kind : MemberKind) (c x : ℕ) (all : List ℕ) → all ≡ [] → ((d : ℕ) → IsHeldAs p t kind c x d → ⊥) → ListsEach all (IsHeldAs p t kind c x)
none_at p t kind c x all is none = subst (λ xs. ListsEach xs (IsHeldAs p t kind c x)) (sym is) (record { once = tt; lists = λ d. (λ h. absurd (false≢true h), λ h. absurd (none d h)) })
