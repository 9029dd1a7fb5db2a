mod BucketLaws
mod LabelLaws
