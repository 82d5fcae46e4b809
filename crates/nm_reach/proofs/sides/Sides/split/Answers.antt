use Rattle.std.proofs.Common.{◌≡◌, ◌+◌, ◌-◌, ◌++◌, length, take, drop, ap, sym, ◌∙◌, append-nil}
use Rattle.nm_reach.proofs.Lists.{take_high, drop_high}
use Rattle.nm_reach.proofs.Rounds.{after_front}
use Rattle.nm_reach.specs.Fields.{Run}
use Rattle.nm_reach.proofs.sides.Sides.split.Goals as goal

pub returns-else-k-room-clause-first_values : goal.returns-else-k-room-clause-first_values
returns-else-k-room-clause-first_values g c =
    let f = c.args.self.front.values in
    let j = c.args.k - c.len.result in
    let far : c.args.k ≡ length f + j = after_front c.args.self c.requires.run c.args.k c.args.room c.requires.room c.requires.within c.if-k-room.false c.len.result c.len.ensures.len in
    ap (λ (x : Run g.row.T.Denot). f ++ x.values) c.cut-taken-else-k-room.ensures.front
    ∙ ap (λ (x : Run g.row.T.Denot). f ++ take j x.values) c.cut-first.ensures.back
    ∙ sym (take_high c.args.k j f c.args.self.back.values far)

pub returns-else-k-room-clause-rest_values : goal.returns-else-k-room-clause-rest_values
returns-else-k-room-clause-rest_values g c =
    let f = c.args.self.front.values in
    let j = c.args.k - c.len.result in
    let far : c.args.k ≡ length f + j = after_front c.args.self c.requires.run c.args.k c.args.room c.requires.room c.requires.within c.if-k-room.false c.len.result c.len.ensures.len in
    let rest = c.cut-taken-else-k-room.result.1.values in
    ap (λ (x : Run g.row.T.Denot). rest ++ x.values) c.cut-first.ensures.front
    ∙ append-nil rest
    ∙ ap (λ (x : Run g.row.T.Denot). x.values) c.cut-taken-else-k-room.ensures.back
    ∙ ap (λ (x : Run g.row.T.Denot). drop j x.values) c.cut-first.ensures.back
    ∙ sym (drop_high c.args.k j f c.args.self.back.values far)
