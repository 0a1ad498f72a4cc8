use Rattle.drawing.proofs.writing.write_class.Goals as goal

pub returns : goal.returns
returns g c = rw (c.as_slice.ensures.value, c.class_element.ensures, c.colour_of-colour.ensures.value) at c.write_whole.ensures
