use Rattle.cx_text.specs.declared.token.Style.TheVariants as styles
use Rattle.cx_conf.specs.Thorns.{thorn_list}
use Rattle.cx_job_files.specs.NamesAndLevels.{AreNamed}
use Rattle.cx_job_files.proofs.ReadNames.{tree_read, places_named}
use Rattle.cx_job_files.proofs.ReadingLaws as laws
use Rattle.cx_job_files.proofs.reading.thorn_list_file.Goals as goal

pub returns-clause-follows : goal.returns-clause-follows
returns-clause-follows g c =
    laws.file_passed_from g.H.Shelf styles.Thorns thorn_list.derives c.args.name.now
    c.args.shelf.now c.required_tokens.new.shelf
    c.in_ok-tokens.tokens c.read_thornlist.result c.named_tree.result c.in_ok-tokens.ensures.follows
    c.read_thornlist.ensures.answers c.named_tree.ensures

pub returns-clause-read : goal.returns-clause-read
returns-clause-read g c =
    tree_read thorn_list.derives (λ list. AreNamed list.places)
    c.args.name.now c.in_ok-tokens.tokens c.read_thornlist.result c.named_tree.result
    (λ list spelled. places_named c.in_ok-tokens.tokens list c.in_ok-tokens.ensures.spelled spelled)
    c.read_thornlist.ensures.answers c.named_tree.ensures
