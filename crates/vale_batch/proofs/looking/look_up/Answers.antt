use Rattle.std.proofs.Common.{◌≡◌, ◌+◌, ◌++◌, ◌∷◌, [], List, drop, ap, sym, ◌∙◌, rules}
use Rattle.std.proofs.lemmas.List.{append_assoc}
use Rattle.nm_frag.specs.Parts.{slots_of_length}
use Rattle.nm_types.specs.Frames.{Frame}
use Rattle.nm_types.proofs.Lists.{drop-slice_get}
use Rattle.std.specs.Prelude.{length}
use Rattle.vale_learn.specs.AddressTable.{Entries}
use Rattle.vale_batch.specs.declared.looking.Destination.{Destination}
use Rattle.vale_batch.specs.declared.looking.Looked.{Looked}
use Rattle.vale_batch.specs.Looking.{looked_up, looked_up_batch, learned_of_batch}
use Rattle.vale_batch.proofs.looking.look_up.Goals as goal

pub loop-i-preserved : goal.loop-i-preserved
loop-i-preserved c =
    let batch = c.args.batch.now in
    let from = c.args.from in
    let i = c.loop-i.i in
    let frame : Frame = record { bytes = c.get-no_learn.result.0.now; no_learn = c.get-no_learn.result.1 } in
    let rest = drop (i + 1) batch in
    let cut : drop i batch ≡ frame ∷ rest = drop-slice_get batch i frame c.get-no_learn.ensures in
    let follow = c.in_ok-went in
    let taught = follow.ensures.table in
    let here : Looked = looked_up from c.follow.new.table frame in
    let told : Looked = record { destination = follow.went; size = slots_of_length (length frame.bytes) } in
    let seen : told ≡ here = ap (λ (d : Destination). record { destination = d; size = slots_of_length (length frame.bytes) }) follow.ensures.destination in
    let pushed : c.push_reserved.new.self.items ≡ c.loop-i.all.items ++ told ∷ [] = search rules in
    let placed : c.push_reserved.new.self.items ≡ c.loop-i.all.items ++ here ∷ [] = pushed ∙ ap (λ (l : Looked). c.loop-i.all.items ++ l ∷ []) seen in
    let inv = c.loop-i.invariant in
    record {
      looked = rw (placed, append_assoc) (ap (λ (t : Entries). c.loop-i.all.items ++ looked_up from t frame ∷ looked_up_batch from t rest) taught
          ∙ (ap (λ (fs : List Frame). c.loop-i.all.items ++ looked_up_batch from c.loop-i.table fs) (sym cut) ∙ inv.looked));
      learned = ap (λ (t : Entries). learned_of_batch from t rest) taught ∙ (ap (λ (fs : List Frame). learned_of_batch from c.loop-i.table fs) (sym cut) ∙ inv.learned);
      went = follow.ensures.destination;
      known = follow.ensures.known;
      undo = follow.ensures.undo ∙ inv.undo;
      all = search rules;
      all_room = search rules;
    }
