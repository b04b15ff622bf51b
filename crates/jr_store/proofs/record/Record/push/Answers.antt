use Rattle.std.proofs.Common.{◌≡◌, ◌++◌, ◌∷◌, [], ◌+◌, length, ◌∙◌, ap, arith, rules, List, ℕ, append_assoc, length-append}
use Rattle.jr_store.specs.Calls.{Call}
use Rattle.jr_store.proofs.Recording.{new_entry, new_call, grown_within, grown_calls, grown_bytes}
use Rattle.jr_store.proofs.record.Record.push.Goals as goal
use Rattle.jr_store.proofs.record.Record.push.Goals.{Else-is_err-3}

module _ (c : Else-is_err-3) where
  path_put : c.extend_from_slice.new.self.items ≡ c.self.inside.arena.items ++ c.args.call.path.now
  path_put = search rules

  grown : c.extend_from_slice-2.new.self.items ≡ c.self.inside.arena.items ++ (c.args.call.path.now ++ c.args.call.bytes.now)
  grown =
      let bytes_put : c.extend_from_slice-2.new.self.items ≡ c.extend_from_slice.new.self.items ++ c.args.call.bytes.now = search rules in
      bytes_put ∙ ap (λ (l : List ℕ). l ++ c.args.call.bytes.now) path_put ∙ append_assoc c.self.inside.arena.items c.args.call.path.now c.args.call.bytes.now

  entries : c.push.new.self.items ≡ c.self.inside.entries.items ++ new_entry c.self.inside.arena.items c.args.call.path.now c.args.call.bytes.now c.args.call.number c.args.call.action ∷ []
  entries =
      let arena = c.self.inside.arena.items in
      let call = c.args.call in
      let start : c.len-path_start.result ≡ length arena = search rules in
      let middle : c.len-bytes_start.result ≡ length arena + length call.path.now =
      (let e : c.len-bytes_start.result ≡ length c.extend_from_slice.new.self.items = search rules in e) ∙ ap length path_put ∙ length-append arena call.path.now in
      let last : c.len-end.result ≡ length arena + length call.path.now + length call.bytes.now =
      (let e : c.len-end.result ≡ length c.extend_from_slice-2.new.self.items = search rules in e) ∙ ap length grown ∙ omega (arith, length-append arena (call.path.now ++ call.bytes.now), length-append call.path.now call.bytes.now) in
      let pushed : c.push.new.self.items ≡ c.self.inside.entries.items ++ record { number = call.number; action = call.action; path_start = c.len-path_start.result; bytes_start = c.len-bytes_start.result; end = c.len-end.result } ∷ [] = search rules in
      pushed ∙ (λ i. c.self.inside.entries.items ++ record { number = call.number; action = call.action; path_start = start i; bytes_start = middle i; end = last i } ∷ [])

pub invariant_of-self-2 : goal.invariant_of-self-2
invariant_of-self-2 c =
    let call = c.args.call in
    let arena = c.self.inside.arena.items in
    let es = c.self.inside.entries.items in
    record {
      within = grown_within arena call.path.now call.bytes.now call.number call.action es c.self.invariant.within c.extend_from_slice-2.new.self.items c.push.new.self.items (grown c) (entries c);
      bytes = grown_bytes arena call.path.now call.bytes.now call.number call.action es c.self.invariant.within c.extend_from_slice-2.new.self.items c.push.new.self.items (grown c) (entries c) c.self.invariant.bytes;
      room = omega (arith, c.extend_from_slice.ensures.capacity, c.extend_from_slice-2.ensures.capacity, c.self.invariant.room);
      places = omega (arith, c.push.ensures.capacity, c.self.invariant.places);
    }

pub returns-clause-kept : goal.returns-clause-kept
returns-clause-kept c =
    let call = c.args.call in
    grown_calls c.self.inside.arena.items call.path.now call.bytes.now call.number call.action c.self.inside.entries.items c.self.invariant.within c.extend_from_slice-2.new.self.items c.push.new.self.items (grown c) (entries c)
    ∙ ap (λ (l : List Call). l ++ new_call c.self.inside.arena.items call.path.now call.bytes.now call.number call.action ∷ []) c.self.view_is
