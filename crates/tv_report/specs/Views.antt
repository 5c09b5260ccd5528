-- What values of the program's types say.
use Rattle.std.specs.Prelude.{ℕ, List, map}
use Rattle.tv_lex.specs.Token.{text_of, spec_tokens}
use Rattle.tv_listing.specs.declared.analysis.MapLine.{MapLine}
use Rattle.tv_listing.specs.declared.analysis.MessageLine.{MessageLine}
use Rattle.tv_report.specs.declared.syntax.NodeText.{NodeText}
use Rattle.tv_report.specs.declared.syntax.MessageText.{MessageText}
use Rattle.tv_report.specs.declared.syntax.MapText.{MapText}
use Rattle.tv_report.specs.declared.syntax.ReportText.{ReportText}
use Rattle.tv_report.specs.Reading.{NodeMark, ReportMarks}

abbrev pub node_mark : List ℕ → NodeText → NodeMark
node_mark bytes node =
    record {
      name = text_of bytes node.name;
      count = node.count;
      structures = spec_tokens bytes node.structures.now;
    }

abbrev pub node_marks : List ℕ → List NodeText → List NodeMark
node_marks bytes nodes = map (node_mark bytes) nodes

abbrev pub message_lines : List MessageText → List MessageLine
message_lines messages = map (λ message. message.line) messages

abbrev pub map_lines : List MapText → List MapLine
map_lines maps = map (λ found. found.line) maps

abbrev pub report_marks : List ℕ → ReportText → ReportMarks
report_marks bytes report = record {
  nodes = node_marks bytes report.nodes.items;
  messages = message_lines report.messages.items;
  maps = map_lines report.maps.items;
}
