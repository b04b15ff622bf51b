-- What a rename answers, from what is found of the file.
use Rattle.std.proofs.Common.{◌≡◌, ◌⊎◌, inl, inr, ℕ, ◌<◌, ◌≤◌, List, length, Some, None, Option, sym, ap, subst, ◌∙◌, arith}
use Rattle.std.specs.Prelude.{slice_index_or}
use Rattle.std.proofs.lemmas.Bool.{cases_lt}
use Rattle.jr_base.specs.Identifiers.{IsIdentifier}
use Rattle.jr_base.specs.Reading.{Lex}
use Rattle.jr_base.specs.Respelled.{respelled, moved_tokens}
use Rattle.jr_base.specs.declared.token.Token.{Token}
use Rattle.jr_thin.specs.declared.answers.Renaming.{Renaming}
use Rattle.jr_thin.specs.declared.answers.Renaming.TheVariants.{NotServed, NoSpelling, BrokenRule, Renamed}
use Rattle.jr_thin.specs.declared.reading.Phase.TheVariants.{Start}
use Rattle.jr_thin.specs.declared.sites.Site.{Site}
use Rattle.jr_thin.specs.declared.sites.Role.TheVariants.{Plain, Use}
use Rattle.jr_lex.proofs.RespelledText.{respelled_reads}
use Rattle.jr_thin.specs.Clashes.{IsRespelled, IsClash, IsLostUse, IsFirstLostUse}
use Rattle.jr_thin.specs.Renaming.{Serves, Changes, KeepsTarget, KeepsTargets, IsFirstLost, IsLost, IsBroken, IsDone, IsRenaming}
use Rattle.jr_thin.specs.Reading.{sites_in}
use Rattle.jr_thin.specs.Scopes.{is_declaration, IsTarget, IsBinding, KeepsRule, Redeclares}
use Rattle.jr_thin.specs.Served.{IsRead, IsUnread, IsServed, IsRefusal}
use Rattle.jr_thin.specs.Sites.{site_at, sites_of}
use Rattle.jr_thin.specs.Text.{Covers, choices}
use Rattle.jr_thin.specs.Trees.{ThinClass, kinds_of, tokens_of}
use Rattle.jr_thin.proofs.Accepts.{read_as_class, read_of_class}
use Rattle.jr_thin.proofs.ClashLemmas.{free_kept, free_rule, clash_kept, clash_redeclares, clash_only, lost_use}
use Rattle.jr_thin.proofs.Files.{length_from, length_kinds, past_sites}
use Rattle.jr_thin.proofs.Respellings.{past, tokens_chosen, respelling, respelled_is, respelled_sites}
use Rattle.jr_thin.proofs.ScopeLemmas.{name_inside, declared_inside}

pub no_identifier : (bytes : List ℕ) (at : ℕ) (name : List ℕ) → (IsIdentifier name → ⊥) → Serves bytes at name → ⊥
no_identifier bytes at name none s = none s.identifier

pub not_read : (bytes : List ℕ) (at : ℕ) (name : List ℕ) → IsUnread bytes → Serves bytes at name → ⊥
not_read bytes at name unread s = unread s.tokens s.tree s.targets s.reads s.plain s.binding s.rule

pub not_named : (bytes : List ℕ) (at : ℕ) (name : List ℕ) (tokens : List Token) (sites : List Site) (targets : List (Option ℕ)) → IsRead bytes tokens sites targets → ((i : ℕ) → Covers tokens sites at i → ⊥) → Serves bytes at name → ⊥
not_named bytes at name tokens sites targets read none s =
    let same = read.only s.tokens s.tree s.reads in
    let here : Covers tokens (sites_of s.tree) at s.asked = subst (λ l. Covers l (sites_of s.tree) at s.asked) (sym same.0) s.covers in
    none s.asked (subst (λ l. Covers tokens l at s.asked) (sym same.1) here)

pub no_target : (bytes : List ℕ) (tokens : List Token) (sites : List Site) (targets : List (Option ℕ)) (at asked : ℕ) → IsRead bytes tokens sites targets → Covers tokens sites at asked → slice_index_or targets asked None ≡ None → ⊥
no_target bytes tokens sites targets at asked read covers none =
    covers.name (subst (IsTarget sites asked) none (read.binding.each asked (name_inside sites asked covers.name)))

-- the declaration declares
pub declared_of : (bytes : List ℕ) (at : ℕ) (name : List ℕ) (tokens : List Token) (sites : List Site) (targets : List (Option ℕ)) (d : ℕ) → IsServed bytes at name tokens sites targets d → is_declaration (site_at sites d).role
declared_of bytes at name tokens sites targets d served =
    let refers : IsTarget sites served.asked (Some d) = subst (IsTarget sites served.asked) served.declared (served.read.binding.each served.asked (name_inside sites served.asked served.covers.name)) in
    elim refers [
      | inl self ↦ subst (λ n. is_declaration (site_at sites n).role) (sym self.1) self.0
      | inr binds ↦ binds.visible.candidate.scope.declared
    ]

-- the changed text has these tokens, of which each is what it was, with its new spelling
pub record IsChanged (bytes : List ℕ) (tokens : List Token) (old : List Site) (targets : List (Option ℕ)) (declaration : ℕ) (name : List ℕ) : Type 0 where
  pub lex : Lex bytes tokens
  pub sites : List Site
  pub read : sites_in (kinds_of tokens) ≡ Some sites
  pub respelled : IsRespelled old sites targets declaration name

module _ (bytes : List ℕ) (at : ℕ) (name : List ℕ) (tokens : List Token) (sites : List Site) (targets : List (Option ℕ)) (d : ℕ) (served : IsServed bytes at name tokens sites targets d) where
  abbrev serves : Serves bytes at name
  serves =
      record {
        tokens = tokens;
        tree = served.read.tree;
        reads = served.read.reads;
        plain = served.read.plain;
        targets = targets;
        binding = subst (λ l. IsBinding l targets) served.read.same served.read.binding;
        rule = subst KeepsRule served.read.same served.read.rule;
        asked = served.asked;
        covers = subst (λ l. Covers tokens l at served.asked) served.read.same served.covers;
        declaration = d;
        declared = served.declared;
        identifier = served.identifier;
      }

  declared : is_declaration (site_at sites d).role
  declared = declared_of bytes at name tokens sites targets d served

  abbrev changed : List Token
  changed = moved_tokens 0 0 (choices d name tokens targets)

  changed_is : IsChanged (respelled bytes 0 (choices d name tokens targets)) changed sites targets d name
  changed_is =
      let read = served.read in
      let old : sites_in (kinds_of tokens) ≡ Some sites = read_of_class (kinds_of tokens) read.tree read.reads.written ∙ ap Some (sym read.same) in
      let r = respelling d name tokens sites targets served.identifier old read.binding in
      record {
        lex = respelled_reads bytes (choices d name tokens targets) (subst (Lex bytes) (sym (tokens_chosen d name tokens targets)) read.reads.lex) r.chosen;
        sites = respelled_sites d name sites targets;
        read = r.read;
        respelled = respelled_is d name sites targets read.binding;
      }

  module _ (new : List ℕ) (change : new ≡ respelled bytes 0 (choices d name tokens targets)) where
    pub is : IsChanged new changed sites targets d name
    is = subst (λ text. IsChanged text changed sites targets d name) (sym change) changed_is

    abbrev class : (c : ThinClass) × (kinds_of changed ≡ tokens_of c) × (is.sites ≡ sites_of c)
    class = read_as_class (kinds_of changed) is.sites is.read

    abbrev changes : Changes bytes at name new
    changes = record { serves = serves; change = change; tokens = changed; tree = class.0; reads = record { lex = is.lex; written = class.1 } }

    pub size_changed : length is.sites ≡ length changed
    size_changed = length_from Start 0 0 (kinds_of changed) is.sites is.read ∙ length_kinds changed

    -- what holds of the sites holds of the class
    kept_in : (i : ℕ) → IsTarget is.sites i (slice_index_or targets i None) → KeepsTarget changes i
    kept_in i kept = subst (λ l. IsTarget l i (slice_index_or targets i None)) class.2 kept

    kept_out : (i : ℕ) → KeepsTarget changes i → IsTarget is.sites i (slice_index_or targets i None)
    kept_out i kept = subst (λ l. IsTarget l i (slice_index_or targets i None)) (sym class.2) kept

    kept_past : (i : ℕ) → length sites ≤ i → IsTarget is.sites i (slice_index_or targets i None)
    kept_past i order =
        let size : length targets ≡ length sites = served.read.binding.size in
        subst (IsTarget is.sites i) (sym (past targets i (omega arith))) (is.respelled.role i ∙ ap (λ (s : Site). s.role) (past_sites sites i order))

    kept_each : ((i : ℕ) → i < length sites → IsTarget is.sites i (slice_index_or targets i None)) → (i : ℕ) → IsTarget is.sites i (slice_index_or targets i None)
    kept_each inner i = elim (cases_lt i (length sites)) [ inl inside ↦ inner i inside | inr order ↦ kept_past i order ]

    pub done : ((e : ℕ) → IsClash sites name d e → ⊥) → IsDone bytes at name new
    done free =
        record {
          changes = changes;
          kept = λ i inside. kept_in i (kept_each (free_kept sites is.sites targets d name served.read.binding served.read.rule is.respelled declared free) i);
          nodes = λ i. ap (λ (l : List Site). (site_at l i).node) (sym class.2) ∙ is.respelled.node i ∙ ap (λ (l : List Site). (site_at l i).node) served.read.same;
          rule = subst KeepsRule class.2 (free_rule sites is.sites targets d name served.read.binding served.read.rule is.respelled declared free);
        }

    module _ (e first last : ℕ) (clash : IsClash sites name d e) (pair : ((first ≡ d) × (last ≡ e)) ⊎ ((first ≡ e) × (last ≡ d))) (order : first < last) where
      -- not lost, so kept
      kept_unless : (i : ℕ) → (IsLostUse sites targets first last i → ⊥) → IsTarget is.sites i (slice_index_or targets i None)
      kept_unless i apart =
          elim (cases_lt i (length sites)) [
            | inl inside ↦ clash_kept sites is.sites targets d name served.read.binding served.read.rule is.respelled declared e first last clash pair order i inside apart
            | inr out ↦ kept_past i out
          ]

      use_inside : (u : ℕ) → (site_at sites u).role ≡ Use → u < length changed
      use_inside u role = let inside : u < length is.sites = name_inside is.sites u (λ p. use_plain (sym role ∙ sym (is.respelled.role u) ∙ p)) in let size : length is.sites ≡ length changed = size_changed in omega arith
        where
          use_plain : Use ≡ Plain → ⊥
          use_plain e = cc

      pub lost_first : (u t : ℕ) → IsFirstLostUse sites targets first last u → slice_index_or targets u None ≡ Some t → IsFirstLost bytes at name u t
      lost_first u t lost had =
          record {
            new = new;
            changes = changes;
            inside = use_inside u lost.lost.is_use;
            had = had;
            lost = λ kept. lost_use sites is.sites targets d name served.read.binding served.read.rule is.respelled declared e first last clash pair order u lost.lost (kept_out u kept);
            before = λ j less. kept_in j (kept_unless j (lost.before j less));
          }

      pub last_inside : last < length changed
      last_inside =
          let r = clash_redeclares sites is.sites targets d name served.read.binding served.read.rule is.respelled declared e first last clash pair order in
          let inside : last < length is.sites = declared_inside is.sites last r.declared in
          let size : length is.sites ≡ length changed = size_changed in
          omega arith

      pub refused : (answer : Renaming) → IsRefusal tokens sites targets changed first last answer → IsRenaming bytes at name answer
      unfolding lost_first
      refused NotServed refusal = absurd refusal
      refused (Renamed v) refusal = absurd refusal
      refused (NoSpelling occ place lock) refusal =
          record {
            index = refusal.0;
            declaration = refusal.1;
            first = lost_first refusal.0 refusal.1 refusal.2 refusal.3;
            occurs = refusal.4 ∙ ap (λ l. Rattle.jr_thin.specs.Renaming.occurrence (site_at l refusal.0).node) served.read.same;
            starts = refusal.5;
            locks = refusal.6 ∙ ap (λ l. Rattle.jr_thin.specs.Renaming.declaration_id (site_at l refusal.1).node) served.read.same;
          }
      refused (BrokenRule place) refusal =
          record {
            new = new;
            changes = changes;
            kept = λ i inside. kept_in i (kept_unless i (refusal.0 i));
            declared = last;
            earlier = first;
            redeclares = subst (λ l. Redeclares l first last) class.2 (clash_redeclares sites is.sites targets d name served.read.binding served.read.rule is.respelled declared e first last clash pair order);
            first = λ a b other less.
                let same : b ≡ last = clash_only sites is.sites targets d name served.read.binding served.read.rule is.respelled declared e first last clash pair order a b (subst (λ l. Redeclares l a b) (sym class.2) other) in
                absurd (omega arith);
            starts = refusal.1;
          }
