-- What bodies declare in the rows so far.
use Rattle.std.proofs.Common.{◌≡◌, refl, sym, ◌∙◌, ap, subst, ℕ, ◌+◌, ◌<◌, true, false, [], length, Option}
use Rattle.jr_tree.specs.declared.label.Role.{Role}
use Rattle.jr_tree.specs.declared.label.Role.TheVariants as role
use Rattle.jr_tree.specs.Rows.{role_at}
use Rattle.jr_plain.specs.Same.{same_role}
use Rattle.jr_places.specs.declared.chains.Entry.{Entry}
use Rattle.jr_places.specs.Numbers.{IsNumbering}
use Rattle.jr_members.specs.declared.members.World.{World}
use Rattle.jr_members.proofs.Declaring.{entries_more}
use Rattle.jr_member_faults.specs.declared.twice.Declared as code
use Rattle.jr_member_faults.specs.Twice.{member_entry, entry_as, with_entry, AreSameTables, NumbersConstructor, AreConstructorsTo, AreDeclaredTo}
use Rattle.jr_member_faults.specs.Views.{rows_of, table_of, IsNamedWorld, IsSignedWorld}
use Rattle.jr_member_faults.proofs.Doubled.{entry_told}
use Rattle.jr_member_faults.proofs.Constructed.{constructors_start, constructors_more}

pub declared_start : (w : World) (declared : code.Declared) → declared.types ≡ [] → declared.fields ≡ [] → declared.methods ≡ [] → declared.constructors ≡ [] → IsNumbering declared.lists → AreDeclaredTo w 0 declared
declared_start w declared types fields methods constructors lists = record {
  types = λ named. types;
  fields = λ named. fields;
  methods = λ named. methods;
  constructors = λ signed. constructors_start (rows_of w) (table_of w) declared.lists declared.constructors lists constructors;
}

pub declared_more : (w : World) (n : ℕ) (old mid new : code.Declared) (r : Role) (entry : Option Entry) → n < length (rows_of w) → AreDeclaredTo w n old → r ≡ role_at (rows_of w) n
    → (IsNamedWorld w → n < length (rows_of w) → same_role (role_at (rows_of w) n) role.Constructor ≡ false → entry ≡ member_entry (rows_of w) w.members.now.callables.signatures n)
    → (IsSignedWorld w → same_role (role_at (rows_of w) n) role.Constructor ≡ true → IsNumbering old.lists → NumbersConstructor (rows_of w) (table_of w) old.lists mid.lists n entry)
    → (same_role (role_at (rows_of w) n) role.Constructor ≡ false → mid.lists ≡ old.lists) → AreSameTables old mid → new.types ≡ with_entry (same_role r role.Type) mid.types entry → new.fields ≡ with_entry (same_role r role.Field) mid.fields entry
    → new.methods ≡ with_entry (same_role r role.Method) mid.methods entry → new.constructors ≡ with_entry (same_role r role.Constructor) mid.constructors entry → new.lists ≡ mid.lists → AreDeclaredTo w (n + 1) new
declared_more w n old mid new r entry lt h is found numbered kept same types fields methods constructors lists = record {
  types = λ named. entries_more (entry_as (rows_of w) role.Type w.members.now.callables.signatures) n old.types new.types _ (h.types named) refl
      (types ∙ ap (λ l. with_entry (same_role r role.Type) l entry) same.types ∙ entry_told (rows_of w) w.members.now.callables.signatures role.Type r n entry old.types is (λ apart. found named lt apart) refl);
  fields = λ named. entries_more (entry_as (rows_of w) role.Field w.members.now.callables.signatures) n old.fields new.fields _ (h.fields named) refl
      (fields ∙ ap (λ l. with_entry (same_role r role.Field) l entry) same.fields ∙ entry_told (rows_of w) w.members.now.callables.signatures role.Field r n entry old.fields is (λ apart. found named lt apart) refl);
  methods = λ named. entries_more (entry_as (rows_of w) role.Method w.members.now.callables.signatures) n old.methods new.methods _ (h.methods named) refl
      (methods ∙ ap (λ l. with_entry (same_role r role.Method) l entry) same.methods ∙ entry_told (rows_of w) w.members.now.callables.signatures role.Method r n entry old.methods is (λ apart. found named lt apart) refl);
  constructors = λ signed. let k = h.constructors signed in subst (λ l. AreConstructorsTo (rows_of w) (table_of w) (n + 1) l new.constructors) (sym lists)
      (constructors_more (rows_of w) (table_of w) n old.lists old.constructors k mid.lists new.constructors r entry is (λ e. numbered signed e k.counted) kept
      (constructors ∙ ap (λ l. with_entry (same_role r role.Constructor) l entry) same.constructors));
}
