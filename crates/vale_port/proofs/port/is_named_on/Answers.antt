use Rattle.std.proofs.Common.{ℕ, List, true, false, ◌≡◌, ◌<◌, ◌≤◌, length, drop, sym, ◌∙◌, ap, rules}
use Rattle.vale_port.specs.Ports.{is_part}
use Rattle.vale_port.proofs.OnSwitch.{on-vale, off-part, off-short, rest-is}
use Rattle.vale_port.proofs.port.is_named_on.Goals as goal
use Rattle.vale_port.proofs.port.is_named_on.Goals.{then-name-gt4, else-name-gt4}

pub returns-then-is_part : goal.returns-then-is_part
returns-then-is_part c = elim c.if-name-gt4.branch [
  | then-name-gt4 w ↦
      let name = c.args.name.now in
      let switch = c.args.switch.now in
      let long : 4 < length name = search rules in
      let part : is_part (drop 4 name) switch ≡ true = ap (λ (text : List ℕ). is_part text switch) (sym (rest-is name)) ∙ sym w.is_part.ensures ∙ sym w.value-is ∙ c.if-is_part.true in
      c.begins.ensures ∙ on-vale switch name c.requires.switch c.requires.name long part
  | else-name-gt4 w ↦ absurd (search rules)
]

pub returns-else-is_part : goal.returns-else-is_part
returns-else-is_part c = elim c.if-name-gt4.branch [
  | then-name-gt4 w ↦
      let name = c.args.name.now in
      let part : is_part (drop 4 name) c.args.switch.now ≡ false = ap (λ (text : List ℕ). is_part text c.args.switch.now) (sym (rest-is name)) ∙ sym w.is_part.ensures ∙ sym w.value-is ∙ c.if-is_part.false in
      c.if-is_part.false ∙ off-part c.args.switch.now name c.requires.switch c.requires.name part
  | else-name-gt4 w ↦
      let short : length c.args.name.now ≤ 4 = search rules in
      c.if-is_part.false ∙ off-short c.args.switch.now c.args.name.now c.requires.switch c.requires.name short
]
