-- What opening the copy comes to for code, and its words part by part.
mod LengthLaws
