-- The table of ports: a row for each, in the order of their opening, whose columns are parted by
-- tabs.
use Rattle.std.specs.Prelude.{ℕ, List, ◌++◌, codes, decimal}
use Rattle.std.specs.List.{flat_map}
use Rattle.vale_entry.specs.declared.entry.Entry.{Entry}
use Rattle.vale_told.specs.declared.tally.Tally.{Tally}
use Rattle.vale_told.specs.declared.opened.Port.{Port}
use Rattle.vale_told.specs.Ports.{ports_told}
use Rattle.vale_show.specs.Page.{or_dash}

unfoldable pub head_line : List ℕ
head_line = codes "port\tsession\tshut\tfinish\ttx\trx\textra\tsent\tshort\tlone\tgiven\tfull\tgone\tread\tunread\tname\n"

unfoldable pub row_start : Port → List ℕ
row_start port =
    decimal port.id ++ codes "\t" ++ decimal port.session ++ codes "\t" ++ or_dash port.told.shut ++ codes "\t" ++ or_dash port.told.finished ++ codes "\t"
    ++ decimal port.tx ++ codes "\t" ++ decimal port.rx ++ codes "\t" ++ decimal port.extra ++ codes "\t"

unfoldable pub row_counts : Tally → List ℕ
row_counts tally =
    decimal tally.counts.sent ++ codes "\t" ++ decimal tally.counts.short ++ codes "\t" ++ decimal tally.counts.lone ++ codes "\t"
    ++ decimal tally.counts.given ++ codes "\t" ++ decimal tally.counts.full ++ codes "\t" ++ decimal tally.gone ++ codes "\t"
    ++ decimal tally.counts.read ++ codes "\t" ++ decimal tally.unread ++ codes "\t"

abbrev pub row : Port → List ℕ
row port = row_start port ++ (row_counts port.told.tally ++ (port.name ++ codes "\n"))

abbrev pub table_text : List Entry → List ℕ
table_text history = head_line ++ flat_map row (ports_told history)
