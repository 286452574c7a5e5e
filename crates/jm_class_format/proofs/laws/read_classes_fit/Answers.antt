use Rattle.jm_class_format.proofs.ReadFits.{read_class_fits}
use Rattle.jm_class_format.proofs.laws.read_classes_fit.Goals as goal

pub returns : goal.returns
returns c es s t u left_s left_t left_u v h b in_version in_head in_body = read_class_fits es s t u v h b left_s left_t left_u in_version in_head in_body
