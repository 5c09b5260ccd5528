use Rattle.tv_source_names.proofs.Kept.{keys_few}
use Rattle.tv_source_names.proofs.read.program.Goals as goal

pub block-requires : goal.block-requires
block-requires c = record {
  variables = keys_few c.in_ok-variables.variables.keys c.args.bytes.now c.as_slice-variable_tokens.result.now c.args.tree.now.variables c.in_ok-variables.ensures.keys c.as_slice-variable_tokens.ensures c.requires.variables;
  fields = keys_few c.in_ok-fields.fields.keys c.args.bytes.now c.as_slice-field_tokens.result.now c.args.tree.now.fields c.in_ok-fields.ensures.keys c.as_slice-field_tokens.ensures c.requires.fields;
}
